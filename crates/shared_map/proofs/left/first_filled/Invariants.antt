use Rattle.std.proofs.Common.{◌≡◌, [], length}
use Rattle.shared_map.specs.Parts.{entries_left}
use Rattle.shared_map.proofs.left.first_filled.Given as goal

-- nothing is taken
abbrev pub invariant-loop-front : goal.invariant-loop-front
invariant-loop-front g l = (entries_left l.front l.chunks l.back ≡ entries_left l.fn.front l.fn.chunks l.fn.back)

abbrev pub decreases-loop-front : goal.decreases-loop-front
decreases-loop-front g l = length l.chunks
