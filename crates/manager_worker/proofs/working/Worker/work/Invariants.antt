use Rattle.control_desk.specs.Desks.{known}
use Rattle.manager_worker.specs.Working.{at_board, Works}
use Rattle.manager_worker.proofs.working.Worker.work.Given as goal

abbrev pub invariant-loop : goal.invariant-loop
invariant-loop g l =
    (goal.iterator-loop g).can_next l.iterator' × (goal.iterator-loop g).is_finite l.iterator'
    × Works g.L.Looking.shows g.A.Api.answers (at_board l.fn.self.hand l.fn.self.tools.listers l.fn.self.tools.api (known l.fn.self.pass))
    (at_board l.self.hand l.self.tools.listers l.self.tools.api (known l.self.pass))
