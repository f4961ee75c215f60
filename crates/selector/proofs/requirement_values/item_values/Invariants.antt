use Rattle.std.proofs.Common.{◌≡◌, drop}
use Rattle.serde_json.specs.View.{items_view}
use Rattle.spec_api.specs.SelectorValues.{item_values}
use Rattle.selector.specs.Reading.{onto_read}
use Rattle.selector.specs.Seen.{texts_of}
use Rattle.selector.proofs.requirement_values.item_values.Given as goal

abbrev pub invariant-loop-item : goal.invariant-loop-item
invariant-loop-item l = item_values (items_view l.items.items) ≡ onto_read (texts_of l.values.items) (item_values (items_view (drop l.item-index l.items.items)))
