use Rattle.std.proofs.Common.{◌≡◌, ◌+◌, ◌*◌, ◌≤◌, drop}
use Rattle.spec_reconcile.specs.Rollouts.{available}
use Rattle.deployment.proofs.rolling_numbers.total_available.Given as goal

abbrev pub invariant-loop-set : goal.invariant-loop-set
invariant-loop-set l = (l.sum + available (drop l.set-index l.sets) ≡ available l.sets) × (l.sum ≤ l.set-index * 18446744073709551615)
