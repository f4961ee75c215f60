use Rattle.std.proofs.Common.{◌≡◌, ◌++◌, map, drop}
use Rattle.spec_reconcile.specs.ReplicaSets.{delete_pod}
use Rattle.replicaset.specs.Ranks.{pods_of}
use Rattle.reconcile_types.specs.Commands.{command_of}
use Rattle.replicaset.proofs.victims.add_deletes.Given as goal

abbrev pub invariant-loop-victim : goal.invariant-loop-victim
invariant-loop-victim l =
    map command_of l.commands.items ++ map delete_pod (pods_of (drop l.victim-index l.victims))
    ≡ map command_of l.fn.commands.items ++ map delete_pod (pods_of l.victims)
