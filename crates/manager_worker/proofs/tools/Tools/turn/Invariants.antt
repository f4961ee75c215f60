use Rattle.std.proofs.Common.{◌≡◌}
use Rattle.control_desk.specs.Desks.{IsPassAt, key_in_hand, known}
use Rattle.manager_worker.specs.Patience.{heard}
use Rattle.manager_worker.specs.Stepping.{in_turn, Reaches}
use Rattle.manager_worker.proofs.tools.Tools.turn.Given as goal

abbrev pub invariant-loop : goal.invariant-loop
invariant-loop g l =
    (goal.iterator-loop g).can_next l.iterator' × (goal.iterator-loop g).is_finite l.iterator'
    × IsPassAt l.desk l.pass × (key_in_hand l.pass ≡ key_in_hand l.fn.pass)
    × Reaches g.L.Looking.shows g.A.Api.answers l.taken.handled (in_turn l.fn.turn l.fn.self.listers (heard l.fn.self.api 0) (known l.fn.pass))
    (in_turn l.turn l.self.listers (heard l.self.api l.patience) (known l.pass))
