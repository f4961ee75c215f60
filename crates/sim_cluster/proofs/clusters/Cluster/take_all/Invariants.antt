use Rattle.std.proofs.Common.{◌≡◌, map, take}
use Rattle.sim_steps.specs.Steps.{step_of}
use Rattle.sim_cluster.specs.ClusterStates.{run}
use Rattle.sim_cluster.proofs.clusters.Cluster.take_all.Given as goal

-- the steps so far were taken
abbrev pub invariant-loop-taken : goal.invariant-loop-taken
invariant-loop-taken l = l.self ≡ run l.fn.self (map step_of (take l.taken l.steps))
