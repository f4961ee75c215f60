use Rattle.sim_cluster_laws.proofs.TakenIn.{taken_in}
use Rattle.sim_cluster_laws.proofs.served_stream_laws.served_streams_are_taken_in.Goals as goal

pub returns : goal.returns
returns c = taken_in
