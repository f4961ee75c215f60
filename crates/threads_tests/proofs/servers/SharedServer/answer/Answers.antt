use Rattle.std.proofs.Common.{Ok, ap, ◌∙◌}
use Rattle.request_decoding.specs.Asked.{asked_seen}
use Rattle.request_parts.specs.Requests.{request_of}
use Rattle.spec_laws.proofs.ReadRequests.{requests_asked}
use Rattle.threads_tests.proofs.servers.SharedServer.answer.Goals as goal

pub call-requires : goal.call-requires
call-requires g c = record {
  asked = requests_asked c.in-Ok.text.method c.as_bytes-target.result.now c.as_bytes-body.result.now (request_of c.in-Ok-Request.request) (c.in-Ok-Request.ensures ∙ ap (λ a. Ok (asked_seen a)) c.in-Ok-Request.field-0-is);
}
