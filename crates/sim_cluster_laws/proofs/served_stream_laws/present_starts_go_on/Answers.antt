use Rattle.sim_cluster_laws.proofs.ToldLooks.{present_starts}
use Rattle.sim_cluster_laws.proofs.served_stream_laws.present_starts_go_on.Goals as goal

pub returns : goal.returns
returns c = present_starts
