use Rattle.control_desk.proofs.Standing.{hands_apart}
use Rattle.control_desk.proofs.hand_laws.hands_are_apart.Goals as goal

pub returns : goal.returns
returns c = hands_apart
