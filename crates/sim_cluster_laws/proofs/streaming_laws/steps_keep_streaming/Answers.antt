use Rattle.sim_cluster_laws.proofs.Asking.{steps_keep}
use Rattle.sim_cluster_laws.proofs.streaming_laws.steps_keep_streaming.Goals as goal

pub returns : goal.returns
returns c = steps_keep
