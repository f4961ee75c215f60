use Rattle.sim_control_plane_laws.proofs.PlaneRuns.{lists_shown}
use Rattle.sim_control_plane_laws.proofs.plane_laws.informers_show_server_lists.Goals as goal

pub returns : goal.returns
returns c = lists_shown
