use Rattle.std.proofs.Common.{sym, subst}
use Rattle.baton.specs.Marks.{entries}
use Rattle.spec_api.specs.Lists.{list_outcome}
use Rattle.spec_api.specs.Verbs.{Outcome}
use Rattle.server.specs.Replies.{Finds}
use Rattle.request_parts.specs.Collected.{list_seen}
use Rattle.selector.specs.Views.{view_of}
use Rattle.desk.specs.Desks.{known}
use Rattle.desk.proofs.Answered.{same_list}
use Rattle.desk.proofs.Stepping.{steps}
use Rattle.desk.proofs.desks.Desk.page.Goals as goal

pub returns-clause-page : goal.returns-clause-page
returns-clause-page g c =
    let h = entries (known c.take-held.new.pass).seen in
    let found =
    subst (λ (o : Outcome). Finds o c.page-page.result)
    (same_list c.args.self.now.window h c.take-held.result (view_of c.args.view.now) (list_seen c.args.options.now) c.take-held.ensures.holding.3)
    (rw (sym c.get.ensures) c.page-page.ensures) in
    steps g.A.Asking.MayAsk _ _ _ _ _ c.take-held.ensures.taken (c.opened.ensures (list_outcome c.args.self.now.window h (view_of c.args.view.now) (list_seen c.args.options.now)) found) c.give_back.ensures.known
