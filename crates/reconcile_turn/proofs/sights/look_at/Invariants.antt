use Rattle.std.proofs.Common.{◌≡◌, map, drop}
use Rattle.spec_sim.specs.Turns.{shown}
use Rattle.reconcile_turn.specs.Seen.{sight_of}
use Rattle.reconcile_turn.proofs.sights.look_at.Given as goal

-- none so far was of the kind
abbrev pub invariant-loop-sight : goal.invariant-loop-sight
invariant-loop-sight l = shown l.kind (map sight_of (drop l.sight-index l.sights)) ≡ shown l.kind (map sight_of l.sights)
