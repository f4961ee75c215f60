use Rattle.spec_laws.proofs.RolloutNumbers.{fewest_stay}
use Rattle.spec_laws.proofs.deployment_laws.fewest_stay.Goals as goal

pub returns : goal.returns
returns c = fewest_stay
