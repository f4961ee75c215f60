use Rattle.std.proofs.Common.{sym, subst}
use Rattle.baton.specs.Marks.{entries}
use Rattle.spec_api.specs.Verbs.{Outcome}
use Rattle.server.specs.Replies.{Lists}
use Rattle.request_parts.specs.Collected.{list_seen}
use Rattle.selector.specs.Views.{view_of}
use Rattle.desk.specs.Desks.{known}
use Rattle.desk.proofs.Answered.{same_list}
use Rattle.desk.proofs.Stepping.{steps}
use Rattle.desk.proofs.desks.Desk.list.Goals as goal

pub returns-clause-list : goal.returns-clause-list
returns-clause-list g c =
    steps g.A.Asking.MayAsk _ _ _ _ _ c.take-held.ensures.taken
    (subst (λ (o : Outcome). Lists o c.list-reply.result)
    (same_list c.args.self.now.window (entries (known c.take-held.new.pass).seen) c.take-held.result (view_of c.args.view.now) (list_seen c.args.options.now) c.take-held.ensures.holding.3)
    (rw (sym c.get.ensures) c.list-reply.ensures)) c.give_back.ensures.known
