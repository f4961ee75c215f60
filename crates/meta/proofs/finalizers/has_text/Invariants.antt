use Rattle.std.proofs.Common.{◌≡◌, drop}
use Rattle.serde_json.specs.View.{items_view}
use Rattle.spec_api.specs.Checks.{has_text}
use Rattle.meta.proofs.finalizers.has_text.Given as goal

abbrev pub invariant-loop-item : goal.invariant-loop-item
invariant-loop-item l = has_text (items_view l.items) l.text ≡ has_text (items_view (drop l.item-index l.items)) l.text
