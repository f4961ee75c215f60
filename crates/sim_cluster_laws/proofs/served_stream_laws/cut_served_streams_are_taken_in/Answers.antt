use Rattle.sim_cluster_laws.proofs.TakenIn.{cut_taken_in}
use Rattle.sim_cluster_laws.proofs.served_stream_laws.cut_served_streams_are_taken_in.Goals as goal

pub returns : goal.returns
returns c = cut_taken_in
