use Rattle.std.proofs.Common.{◌≡◌, ◌++◌, map}
use Rattle.spec_reconcile.specs.Deployments.{scale_each}
use Rattle.reconcile_types.specs.Commands.{command_of}
use Rattle.reconcile_types.specs.Entries.{entry_of}
use Rattle.deployment.proofs.scaling.scale_each.Given as goal

abbrev pub invariant-loop-set : goal.invariant-loop-set
invariant-loop-set l =
    map command_of l.commands.items ++ scale_each (map entry_of l.set-iterator.a.rest.now) l.set-iterator.b.rest.now ≡ scale_each (map entry_of l.sets) l.numbers
