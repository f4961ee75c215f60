use Rattle.spec_laws.proofs.LikeOwners.{nobody_keeps}
use Rattle.spec_laws.proofs.collector_laws.blocking_nobody_keeps_owners.Goals as goal

pub returns : goal.returns
returns c = nobody_keeps
