use Rattle.std.proofs.Common.{All}
use Rattle.baton.specs.Batons.{IsFree}
use Rattle.sharing_tests.proofs.baton_tests.meet_in_turn.Given as goal

abbrev pub invariant-loop-next : goal.invariant-loop-next
invariant-loop-next g l = IsFree l.baton l.last × All (IsFree l.baton) l.passes.items

abbrev pub decreases-loop-next : goal.decreases-loop-next
decreases-loop-next g l = goal.left-loop-next g l
