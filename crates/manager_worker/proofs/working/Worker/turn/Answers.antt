use Rattle.control_desk.specs.Desks.{known}
use Rattle.manager_worker.proofs.Worked.{still, over, left}
use Rattle.manager_worker.specs.Working.{at_board, none}
use Rattle.manager_worker.proofs.working.Worker.turn.Goals as goal

pub returns-in_default-clause-over : goal.returns-in_default-clause-over
returns-in_default-clause-over g c = λ _. none

pub returns-in_default-try_copy-clause-over : goal.returns-in_default-try_copy-clause-over
returns-in_default-try_copy-clause-over g c =
    let b = at_board c.args.self.now.hand c.args.self.now.tools.listers c.args.self.now.tools.api (known c.args.self.now.pass) in
    λ _. still g.L.Looking.shows g.A.Api.answers b c.in-Some.taken c.in-Some.is

pub returns-then-not-turn-clause-left : goal.returns-then-not-turn-clause-left
returns-then-not-turn-clause-left g c =
    let b = at_board c.args.self.now.hand c.args.self.now.tools.listers c.args.self.now.tools.api (known c.args.self.now.pass) in
    λ _. left g.L.Looking.shows g.A.Api.answers b c.in-Some.taken c.in-Ok.copy c.begin-turn.result c.turn.new.self.listers c.turn.new.self.api (known c.turn.new.pass)
    c.in-Some.is c.in-Ok.ensures c.begin-turn.ensures (c.turn.ensures.cut c.if-not-turn.true)

pub returns-clause-over : goal.returns-clause-over
returns-clause-over g c =
    let b = at_board c.args.self.now.hand c.args.self.now.tools.listers c.args.self.now.tools.api (known c.args.self.now.pass) in
    λ _. over g.L.Looking.shows g.A.Api.answers b c.in-Some.taken c.in-Ok.copy c.begin-turn.result c.turn.new.self.listers c.turn.new.self.api (known c.turn.new.pass)
    c.in-Some.is c.in-Ok.ensures c.begin-turn.ensures (c.turn.ensures.over c.if-not-turn.false)
