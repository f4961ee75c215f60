use Rattle.sim_settled_laws.proofs.Rest.{deployments_rolled_out}
use Rattle.sim_settled_laws.proofs.settled_laws.deployments_follow.Goals as goal

pub returns : goal.returns
returns c = deployments_rolled_out
