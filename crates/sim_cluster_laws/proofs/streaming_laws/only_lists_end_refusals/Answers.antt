use Rattle.sim_cluster_laws.proofs.Asking.{lists_end}
use Rattle.sim_cluster_laws.proofs.streaming_laws.only_lists_end_refusals.Goals as goal

pub returns : goal.returns
returns c = lists_end
