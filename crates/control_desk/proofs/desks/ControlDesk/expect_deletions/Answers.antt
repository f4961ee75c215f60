use Rattle.control_desk.proofs.Turns.{calls}
use Rattle.control_desk.proofs.desks.ControlDesk.expect_deletions.Goals as goal

pub returns-clause-step : goal.returns-clause-step
returns-clause-step g c = calls _ _ _ _ _ c.take-held.ensures.taken tt c.expect_deletions_held.ensures.known
