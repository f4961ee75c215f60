use Rattle.std.proofs.Common.{inl, inr, refl}
use Rattle.control_desk.specs.Desks.{known}
use Rattle.manager_worker.proofs.Worked.{joined}
use Rattle.manager_worker.specs.Working.{at_board, none}
use Rattle.manager_worker.proofs.working.Worker.work.Goals as goal

pub returns-then-not-await_lists : goal.returns-then-not-await_lists
returns-then-not-await_lists g c =
    record { last = at_board c.args.self.now.hand c.args.self.now.tools.listers c.args.self.now.tools.api (known c.args.self.now.pass); worked = none; left = inl refl }

pub loop-init : goal.loop-init
loop-init g c = (tt, tt, none)

pub returns-then-is_stopped : goal.returns-then-is_stopped
returns-then-is_stopped g c =
    record { last = at_board c.loop.self.hand c.loop.self.tools.listers c.loop.self.tools.api (known c.loop.self.pass); worked = c.loop.invariant.2; left = inl refl }

pub loop-preserved-then-not-take : goal.loop-preserved-then-not-take
loop-preserved-then-not-take g c = (tt, tt, joined g.L.Looking.shows g.A.Api.answers c.loop.invariant.2 c.take.ensures.works)

pub returns-then-not-turn : goal.returns-then-not-turn
returns-then-not-turn g c =
    record {
      last = at_board c.take.new.self.hand c.take.new.self.tools.listers c.take.new.self.tools.api (known c.take.new.self.pass);
      worked = joined g.L.Looking.shows g.A.Api.answers c.loop.invariant.2 c.take.ensures.works;
      left = inr (c.turn.ensures.left c.if-not-turn.true);
    }

pub loop-preserved : goal.loop-preserved
loop-preserved g c =
    let shows = g.L.Looking.shows in
    let answers = g.A.Api.answers in
    (tt, tt, joined shows answers (joined shows answers c.loop.invariant.2 c.take.ensures.works) (c.turn.ensures.over c.if-not-turn.false))
