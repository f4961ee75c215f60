use Rattle.std.proofs.Common.{◌≡◌, map, drop}
use Rattle.spec_sim.specs.Turns.{was_satisfied}
use Rattle.reconcile_turn.specs.Seen.{sight_of}
use Rattle.reconcile_turn.proofs.sights.was_satisfied.Given as goal

-- none so far was an answer
abbrev pub invariant-loop-sight : goal.invariant-loop-sight
invariant-loop-sight l = was_satisfied (map sight_of (drop l.sight-index l.sights)) ≡ was_satisfied (map sight_of l.sights)
