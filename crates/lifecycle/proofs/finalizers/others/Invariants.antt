use Rattle.std.proofs.Common.{◌≡◌, drop}
use Rattle.serde_json.specs.Data.{no_items}
use Rattle.serde_json.specs.View.{items_view}
use Rattle.spec_api.specs.Deletion.{others_then}
use Rattle.lifecycle.specs.Finalizers.{followed}
use Rattle.lifecycle.proofs.finalizers.others.Given as goal

abbrev pub invariant-loop-item : goal.invariant-loop-item
invariant-loop-item l = followed (items_view l.left.items) (others_then no_items (items_view (drop l.item-index l.items))) ≡ others_then no_items (items_view l.items)
