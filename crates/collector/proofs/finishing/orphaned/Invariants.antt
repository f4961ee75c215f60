use Rattle.std.proofs.Common.{◌≡◌, ◌++◌, drop, map}
use Rattle.reconcile_types.specs.Commands.{command_of}
use Rattle.reconcile_types.specs.Entries.{entry_of}
use Rattle.spec_reconcile.specs.GarbageCollection.{orphaned}
use Rattle.collector.proofs.finishing.orphaned.Given as goal

-- the dependents that are updated and those that are left are all
abbrev pub invariant-loop-dependent : goal.invariant-loop-dependent
invariant-loop-dependent l =
    map command_of l.commands.items ++ orphaned l.object.value (map entry_of (drop l.dependent-index l.dependents)) ≡ orphaned l.object.value (map entry_of l.dependents)
