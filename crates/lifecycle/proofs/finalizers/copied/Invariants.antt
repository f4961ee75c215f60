use Rattle.std.proofs.Common.{◌≡◌, drop}
use Rattle.serde_json.specs.View.{items_view}
use Rattle.lifecycle.specs.Finalizers.{followed}
use Rattle.lifecycle.proofs.finalizers.copied.Given as goal

abbrev pub invariant-loop-item : goal.invariant-loop-item
invariant-loop-item l = followed (items_view l.copies.items) (items_view (drop l.item-index l.items)) ≡ items_view l.items
