use Rattle.std.proofs.Common.{length}
use Rattle.controller_example.proofs.asked.Arguments.parse.Given as goal

abbrev pub decreases-loop-rest : goal.decreases-loop-rest
decreases-loop-rest l = length l.rest
