use Rattle.sim_rest_plane_laws.proofs.Ends.{sets_at_rest}
use Rattle.sim_rest_plane_laws.proofs.whole_laws.sets_are_as_declared_at_rest.Goals as goal

pub returns : goal.returns
returns c = sets_at_rest
