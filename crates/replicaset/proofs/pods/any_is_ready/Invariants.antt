use Rattle.std.proofs.Common.{◌≡◌, drop}
use Rattle.serde_json.specs.View.{items_view}
use Rattle.spec_reconcile.specs.Pods.{any_item, is_ready_condition}
use Rattle.replicaset.proofs.pods.any_is_ready.Given as goal

abbrev pub invariant-loop-condition : goal.invariant-loop-condition
invariant-loop-condition l =
    any_item is_ready_condition (items_view (drop l.condition-index l.conditions)) ≡ any_item is_ready_condition (items_view l.conditions)
