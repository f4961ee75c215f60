use Rattle.control_desk.proofs.Turns.{calls_happen}
use Rattle.control_desk.proofs.hand_laws.calls_can_happen.Goals as goal

pub returns : goal.returns
returns c = calls_happen
