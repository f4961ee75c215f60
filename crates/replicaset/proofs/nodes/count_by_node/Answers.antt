use Rattle.std.proofs.Common.{arith}
use Rattle.replicaset.proofs.nodes.count_by_node.Goals as goal

pub count_one-requires : goal.count_one-requires
count_one-requires c = let small = c.loop-pod.invariant.1 c.pod-item.result.node.now in omega arith
