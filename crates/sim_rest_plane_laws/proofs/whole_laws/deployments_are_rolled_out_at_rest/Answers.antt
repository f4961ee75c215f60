use Rattle.sim_rest_plane_laws.proofs.Ends.{deployments_at_rest}
use Rattle.sim_rest_plane_laws.proofs.whole_laws.deployments_are_rolled_out_at_rest.Goals as goal

pub returns : goal.returns
returns c = deployments_at_rest
