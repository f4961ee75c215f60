use Rattle.std.proofs.Common.{ap, ◌∙◌}
use Rattle.serde_json.specs.Data.{Data}
use Rattle.serde_json.specs.View.{view}
use Rattle.spec_api.specs.Checks.{finalizers}
use Rattle.spec_reconcile.specs.MetadataEdits.{with_last}
use Rattle.owner_references.proofs.KeptItems.{grown_are}
use Rattle.reconciler.proofs.finalizers.with_finalizer.Goals as goal

pub returns : goal.returns
returns c =
    let v = c.in_ok-try_from_str.field-0 in
    grown_are c.finalizers.result.now c.in_ok-finalizers.finalizers.items c.push.new.self.items v c.in_ok-push.ensures.items c.in_ok-finalizers.ensures
    ∙ ap (with_last (view v)) c.finalizers.ensures.items ∙ ap (λ (e : Data). with_last e (finalizers c.args.object.now.value)) c.in_ok-try_from_str.ensures
