use Rattle.spec_laws.proofs.Removals.{stand}
use Rattle.spec_laws.proofs.lifecycle_laws.writes_keep_deletions.Goals as goal

pub returns : goal.returns
returns c = stand
