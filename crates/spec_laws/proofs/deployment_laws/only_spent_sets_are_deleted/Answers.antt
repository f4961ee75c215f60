use Rattle.spec_laws.proofs.DeploymentPlans.{only_spent_sets_are_deleted}
use Rattle.spec_laws.proofs.deployment_laws.only_spent_sets_are_deleted.Goals as goal

pub returns : goal.returns
returns c = only_spent_sets_are_deleted
