use Rattle.std.proofs.Common.{All}
use Rattle.desk.specs.Desks.{IsPassAt}
use Rattle.sharing_tests.proofs.desk_tests.meet_in_turn.Given as goal

abbrev pub invariant-loop-next : goal.invariant-loop-next
invariant-loop-next l = IsPassAt l.desk l.last × All (IsPassAt l.desk) l.passes.items

abbrev pub decreases-loop-next : goal.decreases-loop-next
decreases-loop-next l = goal.left-loop-next l
