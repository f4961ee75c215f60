use Rattle.spec_laws.proofs.AppliedEvents.{lie_between}
use Rattle.spec_laws.proofs.watch_laws.changes_lie_between.Goals as goal

pub returns : goal.returns
returns c = lie_between
