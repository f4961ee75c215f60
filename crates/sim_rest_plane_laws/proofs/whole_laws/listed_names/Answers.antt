use Rattle.sim_rest_plane_laws.proofs.PlanesPass.{listed_names}
use Rattle.sim_rest_plane_laws.proofs.whole_laws.listed_names.Goals as goal

pub returns : goal.returns
returns c = listed_names
