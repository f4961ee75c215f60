use Rattle.spec_laws.proofs.RolloutNumbers.{available_stay}
use Rattle.spec_laws.proofs.deployment_laws.available_pods_stay.Goals as goal

pub returns : goal.returns
returns c = available_stay
