use Rattle.reconcile_locality_laws.proofs.AtPresent.{deployments_settled_now}
use Rattle.reconcile_locality_laws.proofs.present_laws.deployments_are_settled_now.Goals as goal

pub returns : goal.returns
returns c = deployments_settled_now
