use Rattle.sim_rest_plane_laws.proofs.Ends.{nothing_left}
use Rattle.sim_rest_plane_laws.proofs.whole_laws.nothing_is_left_at_rest.Goals as goal

pub returns : goal.returns
returns c = nothing_left
