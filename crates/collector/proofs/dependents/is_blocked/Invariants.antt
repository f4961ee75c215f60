use Rattle.std.proofs.Common.{◌≡◌, drop, map}
use Rattle.reconcile_types.specs.Entries.{entry_of}
use Rattle.spec_reconcile.specs.GarbageCollection.{is_blocked}
use Rattle.collector.proofs.dependents.is_blocked.Given as goal

abbrev pub invariant-loop-dependent : goal.invariant-loop-dependent
invariant-loop-dependent l = is_blocked l.object.value (map entry_of (drop l.dependent-index l.dependents)) ≡ is_blocked l.object.value (map entry_of l.dependents)
