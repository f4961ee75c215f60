use Rattle.std.proofs.Common.{◌≡◌, ◌++◌, map, drop, option_map}
use Rattle.spec_reconcile.specs.Deployments.{has_its_template, new_set, old_sets}
use Rattle.deployment.proofs.Picked.{first_or, left_of}
use Rattle.reconcile_types.specs.Entries.{entry_of}
use Rattle.deployment.proofs.rollout.rollout_of.Given as goal

-- the first so far, or the first of what is to come; and the others so far, with those to come
abbrev pub invariant-loop-set : goal.invariant-loop-set
invariant-loop-set l =
    (first_or (has_its_template l.deployment.value) (option_map entry_of l.new) (map entry_of (drop l.set-index l.sets)) ≡ new_set l.deployment.value (map entry_of l.sets))
    × (map entry_of l.old.items ++ left_of (has_its_template l.deployment.value) (option_map entry_of l.new) (map entry_of (drop l.set-index l.sets)) ≡ old_sets l.deployment.value (map entry_of l.sets))
