use Rattle.sim_control_plane_laws.proofs.Rising.{revisions_rise}
use Rattle.sim_control_plane_laws.proofs.plane_laws.published_revisions_rise.Goals as goal

pub returns : goal.returns
returns c = revisions_rise
