use Rattle.std.proofs.Common.{◌≡◌, drop}
use Rattle.serde_json.specs.View.{items_view}
use Rattle.spec_api.specs.Checks.{text_is, is_finalizer}
use Rattle.spec_api.specs.SelectorValues.{all_items}
use Rattle.validate.proofs.finalizers.all_are_finalizers.Given as goal

abbrev pub invariant-loop-item : goal.invariant-loop-item
invariant-loop-item l = all_items (text_is is_finalizer) (items_view l.items) ≡ all_items (text_is is_finalizer) (items_view (drop l.item-index l.items))
