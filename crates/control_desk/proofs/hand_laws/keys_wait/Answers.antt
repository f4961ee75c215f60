use Rattle.control_desk.proofs.Waits.{keys_wait}
use Rattle.control_desk.proofs.hand_laws.keys_wait.Goals as goal

pub returns : goal.returns
returns c = keys_wait
