use Rattle.spec_laws.proofs.Limited.{happens}
use Rattle.spec_laws.proofs.reached_laws.reached_can_happen.Goals as goal

pub returns : goal.returns
returns c = happens
