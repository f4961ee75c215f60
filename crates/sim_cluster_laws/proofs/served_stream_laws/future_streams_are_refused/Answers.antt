use Rattle.sim_cluster_laws.proofs.Answered.{future_refused}
use Rattle.sim_cluster_laws.proofs.served_stream_laws.future_streams_are_refused.Goals as goal

pub returns : goal.returns
returns c = future_refused
