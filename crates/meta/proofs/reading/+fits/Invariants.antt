use Rattle.std.proofs.Common.{◌≡◌, drop}
use Rattle.serde_json.specs.View.{items_view, members_view}
use Rattle.spec_api.specs.Reading.{items_fit, members_fit}
use Rattle.meta.proofs.reading.+fits.Given as goal

abbrev pub invariant-items_fit-loop-item : goal.invariant-items_fit-loop-item
invariant-items_fit-loop-item l = items_fit l.shape (items_view l.items.items) ≡ items_fit l.shape (items_view (drop l.item-index l.items.items))

abbrev pub invariant-members_fit-loop-key : goal.invariant-members_fit-loop-key
invariant-members_fit-loop-key l = members_fit l.schema (members_view l.members.entries) ≡ members_fit l.schema (members_view l.key-iterator)
