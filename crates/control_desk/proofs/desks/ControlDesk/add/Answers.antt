use Rattle.control_desk.proofs.Turns.{calls}
use Rattle.control_desk.proofs.desks.ControlDesk.add.Goals as goal

pub returns-clause-step : goal.returns-clause-step
returns-clause-step g c = calls _ _ _ _ _ c.take-held.ensures.taken tt c.add_held.ensures.known
