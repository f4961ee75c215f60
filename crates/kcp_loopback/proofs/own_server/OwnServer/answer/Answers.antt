use Rattle.std.proofs.Common.{inl}
use Rattle.request_parts.specs.Requests.{request_of}
use Rattle.desk.specs.Askings.{IsReadable}
use Rattle.desk.specs.Seats.{Calls}
use Rattle.kcp_loopback.specs.Asking.{Rings, seat_at}
use Rattle.kcp_loopback.proofs.Told.{told}
use Rattle.kcp_loopback.proofs.own_server.OwnServer.answer.Goals as goal

pub returns-in-Some-clause-asks : goal.returns-in-Some-clause-asks
returns-in-Some-clause-asks g c =
    let moment = c.in-Some.moment in
    let outcome = told (λ o. Calls IsReadable Rings (seat_at c.args.self.now) (request_of c.args.request) moment o c.call.new.self) c.call.result c.answer_of.result c.call.ensures.calls c.answer_of.ensures in
    inl (moment, outcome.0, c.in-Some.ensures, outcome.1, outcome.2)
