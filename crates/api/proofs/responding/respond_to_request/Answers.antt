use Rattle.request_parts.specs.Requests.{request_of}
use Rattle.api.proofs.Written.{told_then}
use Rattle.api.specs.Responding.{text_of}
use Rattle.api.proofs.responding.respond_to_request.Goals as goal

pub returns-clause-responds : goal.returns-clause-responds
returns-clause-responds g c =
    told_then (λ o. g.S.Site.Calls c.args.site.now (request_of c.args.request) c.args.moment o c.call-answer.new.self) c.call-answer.result (text_of c.answer_text.result)
    c.call-answer.ensures.calls c.answer_text.ensures
