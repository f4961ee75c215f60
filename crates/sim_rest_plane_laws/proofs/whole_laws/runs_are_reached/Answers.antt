use Rattle.sim_rest_plane_laws.proofs.PlanesPass.{all_reached}
use Rattle.sim_rest_plane_laws.proofs.whole_laws.runs_are_reached.Goals as goal

pub returns : goal.returns
returns c = all_reached
