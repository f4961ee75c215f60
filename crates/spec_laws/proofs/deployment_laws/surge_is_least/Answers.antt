use Rattle.spec_laws.proofs.RolloutNumbers.{surge}
use Rattle.spec_laws.proofs.deployment_laws.surge_is_least.Goals as goal

pub returns : goal.returns
returns c = surge
