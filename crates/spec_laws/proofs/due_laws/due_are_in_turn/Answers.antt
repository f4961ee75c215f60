use Rattle.spec_laws.proofs.DueKeys.{in_turn}
use Rattle.spec_laws.proofs.due_laws.due_are_in_turn.Goals as goal

pub returns : goal.returns
returns c = in_turn
