use Rattle.sim_cluster_laws.proofs.Answered.{only_future}
use Rattle.sim_cluster_laws.proofs.served_stream_laws.only_the_future_is_refused.Goals as goal

pub returns : goal.returns
returns c = only_future
