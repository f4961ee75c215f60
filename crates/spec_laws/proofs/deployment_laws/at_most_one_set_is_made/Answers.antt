use Rattle.spec_laws.proofs.DeploymentPlans.{at_most_one_set_is_made}
use Rattle.spec_laws.proofs.deployment_laws.at_most_one_set_is_made.Goals as goal

pub returns : goal.returns
returns c = at_most_one_set_is_made
