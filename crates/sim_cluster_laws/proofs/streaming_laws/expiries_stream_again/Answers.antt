use Rattle.sim_cluster_laws.proofs.Asking.{stream_again}
use Rattle.sim_cluster_laws.proofs.streaming_laws.expiries_stream_again.Goals as goal

pub returns : goal.returns
returns c = stream_again
