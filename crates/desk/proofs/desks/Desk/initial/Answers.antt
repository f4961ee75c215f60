use Rattle.std.proofs.Common.{sym}
use Rattle.baton.specs.Marks.{entries}
use Rattle.selector.specs.Views.{view_of}
use Rattle.desk.specs.Desks.{known}
use Rattle.desk.proofs.Answered.{begun_there}
use Rattle.desk.proofs.Stepping.{steps}
use Rattle.desk.proofs.desks.Desk.initial.Goals as goal

pub returns-clause-initial : goal.returns-clause-initial
returns-clause-initial g c =
    steps g.A.Asking.MayAsk _ _ _ _ _ c.take-held.ensures.taken
    (begun_there c.args.self.now.window (entries (known c.take-held.new.pass).seen) c.take-held.result (view_of c.args.view.now) c.args.least c.initial-begun.result c.take-held.ensures.holding.3 (rw (sym c.get.ensures) c.initial-begun.ensures))
    c.give_back.ensures.known
