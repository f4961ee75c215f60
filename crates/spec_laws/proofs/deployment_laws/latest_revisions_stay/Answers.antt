use Rattle.spec_laws.proofs.DeploymentPlans.{latest_revisions_stay}
use Rattle.spec_laws.proofs.deployment_laws.latest_revisions_stay.Goals as goal

pub returns : goal.returns
returns c = latest_revisions_stay
