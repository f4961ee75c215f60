use Rattle.spec_laws.proofs.Stored.{revisions_carried}
use Rattle.spec_laws.proofs.reached_laws.reached_carry_revisions.Goals as goal

pub returns : goal.returns
returns c = revisions_carried
