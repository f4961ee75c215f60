use Rattle.std.proofs.Common.{◌≡◌, ◌++◌, map, drop}
use Rattle.object_keys.specs.Keys.{key_of}
use Rattle.spec_reconcile.specs.PodClaims.{claims, own_pods}
use Rattle.replicaset.specs.Ranks.{AreRead, pods_of}
use Rattle.reconcile_types.specs.Commands.{command_of}
use Rattle.reconcile_types.specs.Entries.{entry_of}
use Rattle.replicaset.proofs.claim_commands.claim_pods.Given as goal

-- what is claimed so far and what is still to be are all, and likewise what is the set's own
abbrev pub invariant-loop-pod : goal.invariant-loop-pod
invariant-loop-pod l =
    (map command_of l.commands.items ++ claims (key_of l.key) l.set.value l.may (map entry_of (drop l.pod-index l.pods))
    ≡ map command_of l.fn.commands.items ++ claims (key_of l.key) l.set.value l.may (map entry_of l.pods))
    × (pods_of l.own.items ++ own_pods l.set.value l.may (map entry_of (drop l.pod-index l.pods)) ≡ own_pods l.set.value l.may (map entry_of l.pods))
    × AreRead l.own.items
