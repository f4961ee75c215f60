use Rattle.baton.specs.Batons.{IsFree}
use Rattle.sharing_tests.proofs.counters.add_many.Given as goal

abbrev pub invariant-loop : goal.invariant-loop
invariant-loop g l = IsFree l.baton l.pass
