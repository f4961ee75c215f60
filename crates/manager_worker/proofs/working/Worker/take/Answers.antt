use Rattle.std.proofs.Common.{rules, ◌≡◌, ◌∙◌, None, sym}
use Rattle.control_desk.specs.Desks.{known}
use Rattle.manager_worker.proofs.Stepped as stepped
use Rattle.manager_worker.proofs.Worked.{took, saw}
use Rattle.manager_worker.specs.Working.{at_board, none}
use Rattle.manager_worker.proofs.working.Worker.take.Goals as goal

pub returns-then-is_some-clause-works : goal.returns-then-is_some-clause-works
returns-then-is_some-clause-works g c = none

pub returns-in-Ok-Some-clause-works : goal.returns-in-Ok-Some-clause-works
returns-in-Ok-Some-clause-works g c =
    let free : c.args.self.now.hand ≡ None = search rules in
    let b = at_board c.args.self.now.hand c.args.self.now.tools.listers c.args.self.now.tools.api (known c.args.self.now.pass) in
    took g.L.Looking.shows g.A.Api.answers b c.in-Ok-Some.field-0 _ (known c.take_key.new.pass) free c.in-Ok-Some.field-0-is c.in-Ok-Some.ensures.step

pub returns-in-Ok-None-clause-works : goal.returns-in-Ok-None-clause-works
returns-in-Ok-None-clause-works g c =
    let free : c.args.self.now.hand ≡ None = search rules in
    let b = at_board c.args.self.now.hand c.args.self.now.tools.listers c.args.self.now.tools.api (known c.args.self.now.pass) in
    took g.L.Looking.shows g.A.Api.answers b c.in-Ok-None.field-0 c.args.self.now.hand (known c.take_key.new.pass) free (c.in-Ok-None.field-0-is ∙ sym free) c.in-Ok-None.ensures.step

pub returns-in-Err-clause-works : goal.returns-in-Err-clause-works
returns-in-Err-clause-works g c =
    let free : c.args.self.now.hand ≡ None = search rules in
    let b = at_board c.args.self.now.hand c.args.self.now.tools.listers c.args.self.now.tools.api (known c.args.self.now.pass) in
    saw g.L.Looking.shows g.A.Api.answers b (known c.take_key.new.pass) free (stepped.sees (known c.args.self.now.pass) (known c.take_key.new.pass) c.in-Err.ensures.step)
