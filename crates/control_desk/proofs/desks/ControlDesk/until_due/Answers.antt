use Rattle.std.proofs.Common.{ap, ◌∙◌}
use Rattle.work_board.specs.Due.{until_due}
use Rattle.control_desk.proofs.Turns.{calls}
use Rattle.control_desk.proofs.desks.ControlDesk.until_due.Goals as goal

pub returns-clause-step : goal.returns-clause-step
returns-clause-step g c =
    calls _ _ _ _ _ c.take-held.ensures.taken (c.until_due-left.ensures ∙ ap (λ s. until_due s.board) (c.get.ensures ∙ c.take-held.ensures.holding.state)) c.give_back.ensures.known
