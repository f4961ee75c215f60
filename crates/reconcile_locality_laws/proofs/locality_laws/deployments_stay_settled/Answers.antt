use Rattle.reconcile_locality_laws.proofs.DeploymentTurns.{stay_settled}
use Rattle.reconcile_locality_laws.proofs.locality_laws.deployments_stay_settled.Goals as goal

pub returns : goal.returns
returns c = stay_settled
