use Rattle.std.proofs.Common.{◌≡◌, ◌++◌, map, replicate}
use Rattle.spec_client_go.specs.Commands.{create}
use Rattle.object_keys.specs.Keys.{key_of}
use Rattle.reconcile_types.specs.Commands.{command_of}
use Rattle.replicaset.proofs.scaling.repeat.Given as goal

abbrev pub invariant-loop : goal.invariant-loop
invariant-loop l =
    map command_of l.commands.items ≡ map command_of l.fn.commands.items ++ replicate l.counter (create l.pod.kind (key_of l.key).namespace l.pod.value)
