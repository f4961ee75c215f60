use Rattle.spec_laws.proofs.RolloutPlans.{fewest_available}
use Rattle.spec_laws.proofs.deployment_laws.fewest_stay_available.Goals as goal

pub returns : goal.returns
returns c = fewest_available
