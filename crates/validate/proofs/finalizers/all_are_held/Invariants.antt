use Rattle.std.proofs.Common.{◌≡◌, drop}
use Rattle.serde_json.specs.View.{items_view}
use Rattle.spec_api.specs.Checks.{text_is, has_text, finalizers}
use Rattle.spec_api.specs.SelectorValues.{all_items}
use Rattle.validate.proofs.finalizers.all_are_held.Given as goal

abbrev pub invariant-loop-item : goal.invariant-loop-item
invariant-loop-item l =
    all_items (text_is (has_text (finalizers l.stored.value))) (items_view l.items)
    ≡ all_items (text_is (has_text (finalizers l.stored.value))) (items_view (drop l.item-index l.items))
