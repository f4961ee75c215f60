use Rattle.sim_cluster_laws.proofs.Closings.{none_early}
use Rattle.sim_cluster_laws.proofs.served_stream_laws.none_closes_early.Goals as goal

pub returns : goal.returns
returns c = none_early
