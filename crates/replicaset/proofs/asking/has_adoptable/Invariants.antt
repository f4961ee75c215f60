use Rattle.std.proofs.Common.{◌≡◌, map, drop}
use Rattle.spec_reconcile.specs.ReplicaSets.{has_adoptable}
use Rattle.reconcile_types.specs.Entries.{entry_of}
use Rattle.replicaset.proofs.asking.has_adoptable.Given as goal

abbrev pub invariant-loop-pod : goal.invariant-loop-pod
invariant-loop-pod l =
    has_adoptable l.set.value (map entry_of (drop l.pod-index l.pods)) ≡ has_adoptable l.set.value (map entry_of l.pods)
