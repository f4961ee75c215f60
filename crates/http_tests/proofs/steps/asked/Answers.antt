use Rattle.std.proofs.Common.{subst}
use Rattle.http_connection.specs.Arriving.{MayStand}
use Rattle.http_connection.proofs.Readable.{some_can}
use Rattle.http_tests.proofs.steps.asked.Goals as goal

pub answer-requires : goal.answer-requires
answer-requires c = record { asked = some_can _ (subst MayStand c.in-Asked.is c.loop.invariant) }
