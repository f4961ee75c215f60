use Rattle.desk.specs.Desks.{IsPassAt}
use Rattle.sharing_tests.proofs.creating.create_all.Given as goal

abbrev pub invariant-loop-turn : goal.invariant-loop-turn
invariant-loop-turn g l = IsPassAt l.desk l.pass
