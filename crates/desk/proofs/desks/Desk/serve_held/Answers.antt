use Rattle.std.proofs.Common.{Ok, Err, subst}
use Rattle.baton.specs.Marks.{entries}
use Rattle.spec_api.specs.Verbs.{Outcome}
use Rattle.request_parts.specs.Requests.{request_of}
use Rattle.desk.specs.Desks.{known}
use Rattle.desk.specs.Told.{Answers}
use Rattle.desk.proofs.Answered.{same_answer}
use Rattle.desk.proofs.Coming.{writes_follow}
use Rattle.desk.proofs.Entering.{gives_write}
use Rattle.desk.proofs.desks.Desk.serve_held.Goals as goal

pub give-requires-clause-follows : goal.give-requires-clause-follows
give-requires-clause-follows g c =
    let v = known c.args.pass.now in
    writes_follow g.A.Asking.MayAsk v.seen v.name g.M.EntryMade.entry (request_of c.args.request) c.args.moment c.requires.asked c.as_bytes.ensures.moment c.requires.entry

pub give-requires-clause-state : goal.give-requires-clause-state
give-requires-clause-state g c opening so =
    let v = known c.args.pass.now in
    gives_write c.args.self.now.window v.seen v.name g.M.EntryMade.entry c.args.held c.serve.new.held opening v.opening (request_of c.args.request) c.args.moment c.requires.pass.1 c.requires.pass.3 c.in-Ok.ensures.ok
    c.requires.entry so

pub returns-in-Ok-clause-reply : goal.returns-in-Ok-clause-reply
returns-in-Ok-clause-reply g c =
    subst (λ (o : Outcome). Answers o (Ok c.in-Ok.served)) (same_answer c.args.self.now.window (entries (known c.args.pass.now).seen) c.args.held (request_of c.args.request) c.args.moment c.requires.pass.3)
    c.in-Ok.ensures.reply

pub returns-in-Err-clause-reply : goal.returns-in-Err-clause-reply
returns-in-Err-clause-reply g c =
    subst (λ (o : Outcome). Answers o (Err c.in-Err.fault)) (same_answer c.args.self.now.window (entries (known c.args.pass.now).seen) c.args.held (request_of c.args.request) c.args.moment c.requires.pass.3)
    c.in-Err.ensures.reply
