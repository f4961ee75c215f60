use Rattle.spec_laws.proofs.Awaited.{deletions_fall}
use Rattle.spec_laws.proofs.awaited_laws.deletions_only_fall.Goals as goal

pub returns : goal.returns
returns c = deletions_fall
