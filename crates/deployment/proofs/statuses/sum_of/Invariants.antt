use Rattle.std.proofs.Common.{◌≡◌, ◌+◌, ◌*◌, ◌≤◌, map, drop}
use Rattle.spec_reconcile.specs.Deployments.{sum_of}
use Rattle.reconcile_types.specs.Entries.{entry_of}
use Rattle.deployment.proofs.statuses.sum_of.Given as goal

abbrev pub invariant-loop-set : goal.invariant-loop-set
invariant-loop-set l =
    (l.sum + sum_of l.name (map entry_of (drop l.set-index l.sets)) ≡ sum_of l.name (map entry_of l.sets)) × (l.sum ≤ l.set-index * 18446744073709551615)
