use Rattle.sim_rest_plane_laws.proofs.PlanesPass.{planes_pass}
use Rattle.sim_rest_plane_laws.proofs.whole_laws.planes_pass.Goals as goal

pub returns : goal.returns
returns c = planes_pass
