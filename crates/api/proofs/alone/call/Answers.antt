use Rattle.request_parts.specs.Requests.{request_of}
use Rattle.api.proofs.Owned.{call_answered}
use Rattle.api.proofs.alone.call.Goals as goal

pub returns-in-Ok : goal.returns-in-Ok
returns-in-Ok c = call_answered c.args.server.now c.serve.new.self (request_of c.args.request) c.args.moment c.in-Ok.reply c.in-Ok.ensures.reply c.in-Ok.ensures.ok
