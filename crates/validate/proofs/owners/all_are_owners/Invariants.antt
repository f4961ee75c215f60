use Rattle.std.proofs.Common.{◌≡◌, drop}
use Rattle.std.specs.List.{list_all}
use Rattle.serde_json.specs.View.{items_view}
use Rattle.spec_api.specs.Checks.{is_owner}
use Rattle.spec_api.specs.Metadata.{owners_in}
use Rattle.validate.proofs.owners.all_are_owners.Given as goal

abbrev pub invariant-loop-item : goal.invariant-loop-item
invariant-loop-item l =
    list_all (is_owner l.present) (owners_in (items_view l.items.items)) ≡ list_all (is_owner l.present) (owners_in (items_view (drop l.item-index l.items.items)))
