use Rattle.sim_rest_plane_laws.proofs.Ends.{items_at_rest}
use Rattle.sim_rest_plane_laws.proofs.whole_laws.items_are_owned_at_rest.Goals as goal

pub returns : goal.returns
returns c = items_at_rest
