use Rattle.spec_api.specs.Verbs.{accept_at, write_of}
use Rattle.request_parts.specs.Requests.{request_of}
use Rattle.desk.proofs.Wrote.{wrote_so}
use Rattle.desk.proofs.steps.serve_by.Goals as goal

pub returns-in-Ok-clause-reply : goal.returns-in-Ok-clause-reply
returns-in-Ok-clause-reply c =
    let s = c.args.server.now in (
      c.in-Ok.ensures.reply,
      wrote_so s c.serve.new.self (write_of (accept_at (request_of c.args.request) s.snapshot.members s.snapshot.revision c.args.moment)) c.revision-before.result c.revision.result c.in-Ok.ensures.ok
          c.revision-before.ensures.value c.revision.ensures.value,
    )
