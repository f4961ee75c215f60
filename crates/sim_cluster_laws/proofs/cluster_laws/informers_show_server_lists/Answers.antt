use Rattle.sim_cluster_laws.proofs.Runs.{lists_shown}
use Rattle.sim_cluster_laws.proofs.cluster_laws.informers_show_server_lists.Goals as goal

pub returns : goal.returns
returns c = lists_shown
