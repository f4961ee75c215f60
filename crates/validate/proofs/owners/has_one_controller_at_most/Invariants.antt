use Rattle.std.proofs.Common.{◌≡◌, drop, if◌then◌else◌, suc}
use Rattle.serde_json.specs.View.{items_view}
use Rattle.spec_api.specs.Checks.{controllers}
use Rattle.spec_api.specs.Metadata.{owners_in}
use Rattle.validate.proofs.owners.has_one_controller_at_most.Given as goal

abbrev pub invariant-loop-item : goal.invariant-loop-item
invariant-loop-item l =
    controllers (owners_in (items_view l.items.items))
    ≡ (if l.is_found then suc (controllers (owners_in (items_view (drop l.item-index l.items.items)))) else controllers (owners_in (items_view (drop l.item-index l.items.items))))
