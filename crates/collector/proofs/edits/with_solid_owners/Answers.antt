use Rattle.std.proofs.Common.{◌≡◌, IfOk, codes, subst, ap, ◌∙◌}
use Rattle.serde_json.specs.Data.{Items}
use Rattle.serde_json.specs.View.{items_view}
use Rattle.serde_json.specs.Written.{items_have_float}
use Rattle.spec_api.specs.Metadata.{owner}
use Rattle.reconcile_types.specs.Hands.{reads_of}
use Rattle.spec_reconcile.specs.Standings.{standing, is_solid}
use Rattle.spec_reconcile.specs.MetadataEdits.{with_list, only}
use Rattle.collector.proofs.Grown.{only-no_float}
use Rattle.collector.proofs.edits.with_solid_owners.Goals as goal

pub with_list-requires : goal.with_list-requires
with_list-requires c =
    record {
      no_float =
          ap items_have_float c.in_ok-left.ensures ∙ only-no_float (λ r. is_solid (standing (reads_of c.args.reads.now) c.args.namespace.now (owner r))) (items_view c.references.result.now) c.references.ensures.no_float;
    }

pub returns : goal.returns
returns c =
    let d = c.args.object.now.value in
    subst (λ (ds : Items). IfOk c.with_list.result (λ o. o.value ≡ with_list (codes "ownerReferences") ds d))
    (c.in_ok-left.ensures ∙ ap (only (λ r. is_solid (standing (reads_of c.args.reads.now) c.args.namespace.now (owner r)))) c.references.ensures.items) c.with_list.ensures
