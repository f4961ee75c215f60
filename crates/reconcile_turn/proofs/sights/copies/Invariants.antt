use Rattle.std.proofs.Common.{◌≡◌, ◌++◌, map, drop}
use Rattle.reconcile_turn.specs.Seen.{sight_of}
use Rattle.reconcile_turn.proofs.sights.copies.Given as goal

-- those so far and those still to come are all
abbrev pub invariant-loop-sight : goal.invariant-loop-sight
invariant-loop-sight l = map sight_of l.made.items ++ map sight_of (drop l.sight-index l.sights) ≡ map sight_of l.sights
