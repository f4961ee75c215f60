use Rattle.std.proofs.Common.{◌≡◌, drop}
use Rattle.serde_json.specs.View.{items_view}
use Rattle.spec_api.specs.SelectorValues.{expression_requirements}
use Rattle.selector.specs.Reading.{onto_read}
use Rattle.selector.specs.Seen.{requirements_of}
use Rattle.selector.proofs.requirement_values.expressions.Given as goal

abbrev pub invariant-loop-item : goal.invariant-loop-item
invariant-loop-item l = expression_requirements (items_view l.items.items) ≡ onto_read (requirements_of l.found.items) (expression_requirements (items_view (drop l.item-index l.items.items)))
