use Rattle.std.proofs.Common.{◌≡◌, ◌++◌, drop}
use Rattle.spec_reconcile.specs.Rollouts.{without_missing}
use Rattle.deployment.proofs.rolling_numbers.without_missing.Given as goal

abbrev pub invariant-loop-set : goal.invariant-loop-set
invariant-loop-set l = l.left.items ++ without_missing l.rest (drop l.set-index l.old) ≡ without_missing l.fn.room l.old
