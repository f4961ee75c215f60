use Rattle.spec_laws.proofs.RolloutPlans.{surge_never_passed}
use Rattle.spec_laws.proofs.deployment_laws.surge_is_never_passed.Goals as goal

pub returns : goal.returns
returns c = surge_never_passed
