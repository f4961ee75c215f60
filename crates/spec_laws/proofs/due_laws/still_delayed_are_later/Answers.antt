use Rattle.spec_laws.proofs.DueKeys.{still_later}
use Rattle.spec_laws.proofs.due_laws.still_delayed_are_later.Goals as goal

pub returns : goal.returns
returns c = still_later
