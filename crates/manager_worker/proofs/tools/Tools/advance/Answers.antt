-- A step, and what is done after it.
use Rattle.std.proofs.Common.{◌∙◌}
use Rattle.control_desk.specs.Desks.{known}
use Rattle.manager_worker.proofs.Ways.{advances, not_taken, not_ended, fails, not_over}
use Rattle.manager_worker.specs.Ending.{Advances, course_of}
use Rattle.manager_worker.specs.Patience.{heard}
use Rattle.manager_worker.specs.Stepping.{in_turn}
use Rattle.manager_worker.proofs.tools.Tools.advance.Goals as goal

pub returns-in_err-finish-clause-advances : goal.returns-in_err-finish-clause-advances
returns-in_err-finish-clause-advances g c =
    let s = in_turn c.args.turn.now c.args.self.now.listers (heard c.args.self.now.api c.args.patience.now) (known c.args.pass.now) in
    let z = in_turn c.args.turn.now c.args.self.now.listers (heard c.args.self.now.api c.args.patience.now) (known c.finish.new.pass) in
    fails c.from_residual.result (λ x. Advances g.L.Looking.shows g.A.Api.answers c.args.taken.now.handled c.args.taken.now.key s z x) c.from_residual.ensures.0
    (not_ended g.L.Looking.shows g.A.Api.answers c.args.taken.now.handled c.args.taken.now.key s (known c.finish.new.pass) c.in_err-finish.ensures.sees)

pub returns-in_err-progress : goal.returns-in_err-progress
returns-in_err-progress g c =
    let s = in_turn c.args.turn.now c.args.self.now.listers (heard c.args.self.now.api c.args.patience.now) (known c.args.pass.now) in
    let z = in_turn c.step.new.turn c.step.new.self.listers (heard c.step.new.self.api c.step.new.patience) (known c.step.new.pass) in
    let r = c.from_residual-in_err-progress.result in
    let is_err = c.from_residual-in_err-progress.ensures.0 in
    record {
      pass = c.step.ensures.pass;
      free = λ e. absurd (not_over r is_err e);
      mine = λ _. c.step.ensures.key;
      advances =
          fails r (λ x. Advances g.L.Looking.shows g.A.Api.answers c.args.taken.now.handled c.args.taken.now.key s z x) is_err
          (not_taken g.L.Looking.shows g.A.Api.answers c.args.taken.now.handled c.args.taken.now.key s z c.in_err-progress.ensures.steps);
    }

pub returns : goal.returns
returns g c =
    let s = in_turn c.args.turn.now c.args.self.now.listers (heard c.args.self.now.api c.args.patience.now) (known c.args.pass.now) in
    let u = in_turn c.step.new.turn c.step.new.self.listers (heard c.step.new.self.api c.step.new.patience) (known c.step.new.pass) in
    record {
      pass = c.go_on.ensures.pass;
      free = c.go_on.ensures.free;
      mine = λ e. c.go_on.ensures.mine e ∙ c.step.ensures.key;
      advances =
          advances g.L.Looking.shows g.A.Api.answers c.args.taken.now.handled c.args.taken.now.key s u c.in_ok-progress.progress (known c.go_on.new.pass) (course_of c.go_on.result) c.in_ok-progress.ensures.steps
          c.go_on.ensures.follows;
    }
