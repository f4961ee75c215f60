use Rattle.spec_laws.proofs.AppliedEvents.{list_applied}
use Rattle.spec_laws.proofs.watch_laws.changes_are_applied.Goals as goal

pub returns : goal.returns
returns c = list_applied
