use Rattle.std.proofs.Common.{◌≡◌, ◌++◌, drop}
use Rattle.spec_reconcile.specs.Rollouts.{asked}
use Rattle.deployment.proofs.rolling_numbers.asked.Given as goal

abbrev pub invariant-loop-set : goal.invariant-loop-set
invariant-loop-set l = l.numbers.items ++ asked (drop l.set-index l.sets) ≡ asked l.sets
