use Rattle.http_connection.specs.Arriving.{MayStand}
use Rattle.http_tests.proofs.steps.asked.Given as goal

abbrev pub invariant-loop : goal.invariant-loop
invariant-loop l = MayStand l.phase
