use Rattle.control_desk.proofs.Highest.{highest}
use Rattle.control_desk.proofs.hand_laws.highest_are_handled.Goals as goal

pub returns : goal.returns
returns c = highest
