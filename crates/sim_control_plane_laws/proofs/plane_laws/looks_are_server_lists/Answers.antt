use Rattle.sim_control_plane_laws.proofs.PlaneRuns.{looks_listed}
use Rattle.sim_control_plane_laws.proofs.plane_laws.looks_are_server_lists.Goals as goal

pub returns : goal.returns
returns c = looks_listed
