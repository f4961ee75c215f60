use Rattle.sim_control_plane_laws.proofs.Replacing.{named_replaced}
use Rattle.sim_control_plane_laws.proofs.plane_laws.named_versions_are_replaced.Goals as goal

pub returns : goal.returns
returns c = named_replaced
