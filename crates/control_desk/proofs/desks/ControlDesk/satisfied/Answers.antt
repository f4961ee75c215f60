use Rattle.std.proofs.Common.{◌∙◌, ap, sym}
use Rattle.spec_client_go.specs.Boards.{is_satisfied}
use Rattle.work_board.specs.Seen.{owner_of}
use Rattle.control_desk.proofs.Turns.{calls}
use Rattle.control_desk.proofs.desks.ControlDesk.satisfied.Goals as goal

pub returns-clause-step : goal.returns-clause-step
returns-clause-step g c =
    calls _ _ _ _ _ c.take-held.ensures.taken ((rw (sym (ap (λ s. s.board) c.get.ensures)) c.satisfied-answer.ensures) ∙ ap (λ s. is_satisfied (owner_of c.args.owner.now) s.board) c.take-held.ensures.holding.state)
    c.give_back.ensures.known
