use Rattle.std.proofs.Common.{◌≡◌, ℕ, ◌≤◌, ◌+◌, drop}
use Rattle.replicaset.specs.Ranks.{ready_among}
use Rattle.replicaset.proofs.own_pods.count_ready.Given as goal

-- what is counted so far and what is still to be are all, and so far at most each
pub record Counted (n i more all : ℕ) : Type 0 where
  pub sum : n + more ≡ all
  pub small : n ≤ i

abbrev pub invariant-loop-pod : goal.invariant-loop-pod
invariant-loop-pod l =
    Counted l.count l.pod-index (ready_among (drop l.pod-index l.pods)) (ready_among l.pods)
