use Rattle.control_desk.proofs.Same.{changes_told}
use Rattle.control_desk.proofs.hand_laws.changes_are_told.Goals as goal

pub returns : goal.returns
returns c = changes_told
