use Rattle.std.proofs.Common.{◌∙◌, ap}
use Rattle.line_session.specs.SessionStates.{accepted, of_write}
use Rattle.line_session.proofs.Served.{served-write, served-text}
use Rattle.request_parts.specs.Requests.{request_of}
use Rattle.line_session.proofs.sessions.Session.prepare_request.Goals as goal

pub returns-in_ok-line-in-Ok-clause-reply : goal.returns-in_ok-line-in-Ok-clause-reply
returns-in_ok-line-in-Ok-clause-reply c =
    c.in_ok-line-in-Ok.ensures
    ∙ (rw c.as_str.ensures.value (served-text (accepted c.args.self.now (request_of c.args.request)) c.in-Ok.reply c.in-Ok.write c.in-Ok.ensures))

pub returns-in_ok-line-in-Ok-clause-effect : goal.returns-in_ok-line-in-Ok-clause-effect
returns-in_ok-line-in-Ok-clause-effect c =
    c.of_write.ensures ∙ ap of_write (served-write (accepted c.args.self.now (request_of c.args.request)) c.in-Ok.reply c.in-Ok.write c.in-Ok.ensures)
