use Rattle.spec_laws.proofs.RolloutNumbers.{unavailable}
use Rattle.spec_laws.proofs.deployment_laws.unavailable_is_greatest.Goals as goal

pub returns : goal.returns
returns c = unavailable
