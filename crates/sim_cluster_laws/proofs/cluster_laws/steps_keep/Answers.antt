use Rattle.sim_cluster_laws.proofs.Runs.{keeps}
use Rattle.sim_cluster_laws.proofs.cluster_laws.steps_keep.Goals as goal

pub returns : goal.returns
returns c = keeps
