use Rattle.spec_laws.proofs.AppliedEvents.{goes_on}
use Rattle.spec_laws.proofs.watch_laws.changes_go_on.Goals as goal

pub returns : goal.returns
returns c = goes_on
