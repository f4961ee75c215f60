use Rattle.std.proofs.Common.{◌≡◌, IfOk, codes, not, subst, ap, ◌∙◌}
use Rattle.serde_json.specs.Data.{Items}
use Rattle.serde_json.specs.View.{items_view}
use Rattle.serde_json.specs.Written.{items_have_float}
use Rattle.spec_api.specs.Metadata.{owner}
use Rattle.spec_reconcile.specs.Standings.{is_to}
use Rattle.spec_reconcile.specs.MetadataEdits.{with_list, only}
use Rattle.collector.proofs.Grown.{only-no_float}
use Rattle.collector.proofs.edits.without_owner.Goals as goal

pub with_list-requires : goal.with_list-requires
with_list-requires c =
    record {
      no_float =
          ap items_have_float c.in_ok-left.ensures ∙ only-no_float (λ r. not (is_to c.args.object.now.value (owner r))) (items_view c.references.result.now) c.references.ensures.no_float;
    }

pub returns : goal.returns
returns c =
    let d = c.args.dependent.now.value in
    subst (λ (ds : Items). IfOk c.with_list.result (λ o. o.value ≡ with_list (codes "ownerReferences") ds d))
    (c.in_ok-left.ensures ∙ ap (only (λ r. not (is_to c.args.object.now.value (owner r)))) c.references.ensures.items) c.with_list.ensures
