use Rattle.std.proofs.Common.{◌≡◌, IfOk, codes, not, subst, ap, ◌∙◌}
use Rattle.serde_json.specs.Data.{Items}
use Rattle.serde_json.specs.View.{items_view}
use Rattle.serde_json.specs.Written.{items_have_float}
use Rattle.std.specs.Str.{bytes_eq}
use Rattle.spec_api.specs.Checks.{text_is}
use Rattle.spec_reconcile.specs.MetadataEdits.{with_list, only}
use Rattle.collector.proofs.Grown.{only-no_float}
use Rattle.collector.proofs.edits.without_finalizer.Goals as goal

pub with_list-requires : goal.with_list-requires
with_list-requires c =
    record {
      no_float =
          ap items_have_float c.in_ok-left.ensures ∙ only-no_float (λ r. not (text_is (bytes_eq c.args.finalizer.now) r)) (items_view c.finalizers.result.now) c.finalizers.ensures.no_float;
    }

pub returns : goal.returns
returns c =
    let d = c.args.object.now.value in
    subst (λ (ds : Items). IfOk c.with_list.result (λ o. o.value ≡ with_list (codes "finalizers") ds d))
    (c.in_ok-left.ensures ∙ ap (only (λ r. not (text_is (bytes_eq c.args.finalizer.now) r))) c.finalizers.ensures.items) c.with_list.ensures
