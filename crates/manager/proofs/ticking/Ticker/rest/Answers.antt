use Rattle.std.proofs.Common.{◌-◌, ap, ◌∙◌}
use Rattle.std.specs.Prelude.{max, min}
use Rattle.control_desk.specs.Desks.{known}
use Rattle.manager.proofs.Resting.{rests}
use Rattle.manager.proofs.ticking.Ticker.rest.Goals as goal

-- the board is asked once, and what it says is kept to
pub returns-clause-rest : goal.returns-clause-rest
returns-clause-rest g c =
    let look = c.saturating_sub-until_look in
    rests c.until_due-until_due.result look.result c.max.result c.args.self.now.passed c.args.self.now.woken (known c.args.self.now.pass) (known c.until_due-until_due.new.pass)
    (look.ensures ∙ ap (λ n. 1000 - n) c.saturating_sub-since.ensures)
    (c.max.ensures ∙ ap (λ n. max n 1) (c.min.ensures ∙ ap (λ n. min n look.result) c.unwrap_or.ensures)) c.until_due-until_due.ensures.step
