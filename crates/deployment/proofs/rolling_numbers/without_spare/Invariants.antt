use Rattle.std.proofs.Common.{◌≡◌, ◌++◌, drop}
use Rattle.spec_reconcile.specs.Rollouts.{without_spare}
use Rattle.deployment.proofs.rolling_numbers.without_spare.Given as goal

abbrev pub invariant-loop-replicas : goal.invariant-loop-replicas
invariant-loop-replicas l = l.left.items ++ without_spare l.rest (drop l.replicas-index l.asked) ≡ without_spare l.fn.spare l.asked
