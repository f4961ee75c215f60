use Rattle.std.proofs.Common.{◌≤◌, length}
use Rattle.meta.proofs.whole_texts.likely_place.Given as goal

-- the place is in both texts
abbrev pub invariant-loop-at : goal.invariant-loop-at
invariant-loop-at l = (l.at ≤ length l.text) × (l.at ≤ length l.item)

abbrev pub decreases-loop-at : goal.decreases-loop-at
decreases-loop-at l = l.at
