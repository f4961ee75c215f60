use Rattle.std.proofs.Common.{sym, subst, Result}
use Rattle.baton.specs.Marks.{entries}
use Rattle.spec_api.specs.Refusals.{Refusal}
use Rattle.spec_api.specs.Versions.{Watched}
use Rattle.revisions.specs.Watches.{watched_of}
use Rattle.selector.specs.Views.{view_of}
use Rattle.watch_cache.specs.Served.{Serves}
use Rattle.desk.specs.Desks.{known}
use Rattle.desk.proofs.Answered.{same_watch}
use Rattle.desk.proofs.Stepping.{steps}
use Rattle.desk.proofs.desks.Desk.watch_from.Goals as goal

pub returns-clause-watch : goal.returns-clause-watch
returns-clause-watch g c =
    steps g.A.Asking.MayAsk _ _ _ _ _ c.take-held.ensures.taken
    (subst (λ (o : Result Watched Refusal). Serves watched_of o c.watch_from-watched.result)
    (same_watch c.args.self.now.window (entries (known c.take-held.new.pass).seen) c.take-held.result (view_of c.args.view.now) c.args.after c.args.max c.take-held.ensures.holding.3)
    (rw (sym c.get.ensures) c.watch_from-watched.ensures)) c.give_back.ensures.known
