use Rattle.std.proofs.Common.{◌≡◌, ◌++◌, map, drop}
use Rattle.spec_reconcile.specs.Deployments.{sets}
use Rattle.deployment.specs.Sets.{rollout_seen}
use Rattle.reconcile_types.specs.Entries.{entry_of}
use Rattle.deployment.proofs.rollout.all_sets.Given as goal

abbrev pub invariant-loop-set : goal.invariant-loop-set
invariant-loop-set l = map entry_of l.sets.items ++ map entry_of (drop l.set-index l.rollout.old.items) ≡ sets (rollout_seen l.rollout)
