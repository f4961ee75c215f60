use Rattle.spec_laws.proofs.DeploymentPlans.{waiting_ones_report}
use Rattle.spec_laws.proofs.deployment_laws.waiting_ones_report.Goals as goal

pub returns : goal.returns
returns c = waiting_ones_report
