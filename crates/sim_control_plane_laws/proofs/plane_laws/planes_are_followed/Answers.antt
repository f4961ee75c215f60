use Rattle.sim_control_plane_laws.proofs.PlaneRuns.{followed}
use Rattle.sim_control_plane_laws.proofs.plane_laws.planes_are_followed.Goals as goal

pub returns : goal.returns
returns c = followed
