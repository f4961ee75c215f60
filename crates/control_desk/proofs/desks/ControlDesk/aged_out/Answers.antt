use Rattle.std.proofs.Common.{IfOk, map, subst, ◌∙◌}
use Rattle.work_board.specs.Aged.{HaveAgedOut}
use Rattle.control_desk.proofs.Turns.{calls}
use Rattle.control_desk.proofs.desks.ControlDesk.aged_out.Goals as goal
use Rattle.object_keys.specs.WorkKeys.{work_key_of}

pub returns-clause-step : goal.returns-clause-step
returns-clause-step g c =
    calls _ _ _ _ _ c.take-held.ensures.taken
    (subst (λ s. IfOk c.aged_out-answer.result (λ a. HaveAgedOut c.args.before a.moment (map work_key_of a.keys.items) s.board)) (c.get.ensures ∙ c.take-held.ensures.holding.state) c.aged_out-answer.ensures)
    c.give_back.ensures.known
