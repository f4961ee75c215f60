use Rattle.std.proofs.Common.{◌≡◌, ◌++◌, map, drop}
use Rattle.replicaset.specs.Nodes.{count_at}
use Rattle.replicaset.specs.Ranks.{rank_of, ranked_of, with_on_node}
use Rattle.replicaset.specs.declared.ranks.Ranked.{Ranked}
use Rattle.reconcile_types.specs.Entries.{entry_of}
use Rattle.replicaset.proofs.victims.with_counts.Given as goal

abbrev pub invariant-loop-pod : goal.invariant-loop-pod
invariant-loop-pod l =
    map ranked_of l.ranked.items ++ map (λ (r : Ranked). (with_on_node (count_at r.node.now l.counts) (rank_of r.rank), entry_of r.pod)) (drop l.pod-index l.pods)
    ≡ map (λ (r : Ranked). (with_on_node (count_at r.node.now l.counts) (rank_of r.rank), entry_of r.pod)) l.pods
