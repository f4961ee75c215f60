use Rattle.std.proofs.Common.{◌≡◌, ◌++◌, map, drop}
use Rattle.spec_reconcile.specs.Deployments.{tally}
use Rattle.reconcile_types.specs.Entries.{entry_of}
use Rattle.deployment.proofs.rollout.tallies.Given as goal

abbrev pub invariant-loop-set : goal.invariant-loop-set
invariant-loop-set l = l.tallies.items ++ map tally (map entry_of (drop l.set-index l.sets)) ≡ map tally (map entry_of l.sets)
