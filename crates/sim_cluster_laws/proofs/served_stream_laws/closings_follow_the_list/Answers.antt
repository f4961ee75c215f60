use Rattle.sim_cluster_laws.proofs.Closings.{closings_follow}
use Rattle.sim_cluster_laws.proofs.served_stream_laws.closings_follow_the_list.Goals as goal

pub returns : goal.returns
returns c = closings_follow
