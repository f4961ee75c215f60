use Rattle.std.proofs.Common.{◌≡◌, ◌+◌, ◌≤◌, ℕ, List, drop}
use Rattle.replicaset.specs.Nodes.{count_at}
use Rattle.replicaset.specs.Ranks.{on_node_among}
use Rattle.replicaset.proofs.nodes.count_by_node.Given as goal

-- what is counted so far and what is still to be are all, and so far at most each
abbrev pub invariant-loop-pod : goal.invariant-loop-pod
invariant-loop-pod l =
    ((n : List ℕ) → count_at n l.counts + on_node_among n (drop l.pod-index l.pods) ≡ on_node_among n l.pods)
    × ((n : List ℕ) → count_at n l.counts ≤ l.pod-index)
