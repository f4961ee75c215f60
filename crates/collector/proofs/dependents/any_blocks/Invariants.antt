use Rattle.std.proofs.Common.{◌≡◌, ◌&&◌, drop}
use Rattle.std.specs.List.{list_any}
use Rattle.serde_json.specs.View.{items_view}
use Rattle.spec_api.specs.Metadata.{Owner, owners_in}
use Rattle.spec_reconcile.specs.Standings.{is_to}
use Rattle.collector.proofs.dependents.any_blocks.Given as goal

abbrev pub invariant-loop-reference : goal.invariant-loop-reference
invariant-loop-reference l =
    list_any (λ (o : Owner). is_to l.object.value o && o.blocks_deletion) (owners_in (items_view (drop l.reference-index l.references)))
    ≡ list_any (λ (o : Owner). is_to l.object.value o && o.blocks_deletion) (owners_in (items_view l.references))
