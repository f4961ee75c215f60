use Rattle.std.proofs.Common.{◌≡◌, ◌+◌, ◌*◌, ◌≤◌, drop}
use Rattle.spec_reconcile.specs.Rollouts.{total, asked}
use Rattle.deployment.proofs.rolling_numbers.total_asked.Given as goal

abbrev pub invariant-loop-set : goal.invariant-loop-set
invariant-loop-set l = (l.sum + total (asked (drop l.set-index l.sets)) ≡ total (asked l.sets)) × (l.sum ≤ l.set-index * 18446744073709551615)
