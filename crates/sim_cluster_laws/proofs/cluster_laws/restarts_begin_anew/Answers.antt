use Rattle.sim_cluster_laws.proofs.Runs.{restarts}
use Rattle.sim_cluster_laws.proofs.cluster_laws.restarts_begin_anew.Goals as goal

pub returns : goal.returns
returns c = restarts
