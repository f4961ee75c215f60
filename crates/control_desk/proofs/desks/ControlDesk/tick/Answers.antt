use Rattle.control_desk.proofs.Turns.{calls}
use Rattle.control_desk.proofs.desks.ControlDesk.tick.Goals as goal

pub returns-clause-step : goal.returns-clause-step
returns-clause-step g c = calls _ _ _ _ _ c.take-held.ensures.taken c.tick_held.ensures.went c.tick_held.ensures.known
