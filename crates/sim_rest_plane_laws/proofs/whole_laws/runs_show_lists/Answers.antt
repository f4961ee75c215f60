use Rattle.sim_rest_plane_laws.proofs.PlanesPass.{show_lists}
use Rattle.sim_rest_plane_laws.proofs.whole_laws.runs_show_lists.Goals as goal

pub returns : goal.returns
returns c = show_lists
