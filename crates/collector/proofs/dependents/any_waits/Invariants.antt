use Rattle.std.proofs.Common.{◌≡◌, drop, map}
use Rattle.std.specs.List.{list_any}
use Rattle.reconcile_types.specs.Entries.{entry_of}
use Rattle.spec_reconcile.specs.Standings.{waits_for_dependents}
use Rattle.collector.proofs.dependents.any_waits.Given as goal

abbrev pub invariant-loop-dependent : goal.invariant-loop-dependent
invariant-loop-dependent l =
    list_any (λ m. waits_for_dependents m.1) (map entry_of (drop l.dependent-index l.dependents)) ≡ list_any (λ m. waits_for_dependents m.1) (map entry_of l.dependents)
