use Rattle.spec_laws.proofs.Traced.{stand}
use Rattle.spec_laws.proofs.identity_laws.deletions_stand.Goals as goal

pub returns : goal.returns
returns c = stand
