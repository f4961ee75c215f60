use Rattle.std.proofs.Common.{Ok, sym, ap, ◌∙◌}
use Rattle.request_decoding.specs.Asked.{asked_seen}
use Rattle.request_parts.specs.Requests.{request_of}
use Rattle.spec_laws.proofs.ReadRequests.{requests_asked}
use Rattle.kcp_loopback.specs.Asking.{seat_at}
use Rattle.kcp_loopback.proofs.Asking.{asks_read, asks_refused}
use Rattle.kcp_loopback.proofs.own_server.OwnServer.ask.Goals as goal

pub answer-requires : goal.answer-requires
answer-requires g c = record {
  read = requests_asked c.in-Ok.text.method c.as_bytes-target.result.now c.as_bytes-body.result.now (request_of c.in-Ok-Request.request) (c.in-Ok-Request.ensures ∙ ap (λ a. Ok (asked_seen a)) c.in-Ok-Request.field-0-is);
}

pub returns-in-Ok-Request-clause-asks : goal.returns-in-Ok-Request-clause-asks
returns-in-Ok-Request-clause-asks g c =
    asks_read (request_of c.args.request.now) c.in-Ok.text c.as_bytes-target.result.now c.as_bytes-body.result.now (sym c.if-not-can_be_told.ensures) c.in-Ok.ensures.asks c.as_bytes-target.ensures.value c.as_bytes-body.ensures.value
    (seat_at c.args.self.now) c.answer.result (seat_at c.answer.new.self) (request_of c.in-Ok-Request.request) (c.in-Ok-Request.ensures ∙ ap (λ a. Ok (asked_seen a)) c.in-Ok-Request.field-0-is) c.answer.ensures.asks

pub returns-clause-asks : goal.returns-clause-asks
returns-clause-asks g c =
    asks_refused (request_of c.args.request.now) c.in-Ok.text c.as_bytes-target.result.now c.as_bytes-body.result.now (sym c.if-not-can_be_told.ensures) c.in-Ok.ensures.asks c.as_bytes-target.ensures.value c.as_bytes-body.ensures.value
    (seat_at c.args.self.now) c.answer_of.result c.in-Err.fault c.in-Err.ensures c.answer_of.ensures
