use Rattle.control_desk.proofs.Turns.{calls}
use Rattle.control_desk.proofs.desks.ControlDesk.requeue_after.Goals as goal

pub returns-clause-step : goal.returns-clause-step
returns-clause-step g c = calls _ _ _ _ _ c.take-held.ensures.taken tt c.requeue_held.ensures.known
