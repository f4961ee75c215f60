use Rattle.sim_control_plane_laws.proofs.Replacing.{replaced}
use Rattle.sim_control_plane_laws.proofs.plane_laws.issued_versions_are_replaced.Goals as goal

pub returns : goal.returns
returns c = replaced
