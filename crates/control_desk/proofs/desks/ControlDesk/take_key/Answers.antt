use Rattle.control_desk.proofs.Turns.{calls}
use Rattle.control_desk.proofs.desks.ControlDesk.take_key.Goals as goal

pub returns-clause-step : goal.returns-clause-step
returns-clause-step g c = calls _ _ _ _ _ c.take-held.ensures.taken c.take_key_held.ensures.next c.take_key_held.ensures.known
