use Rattle.sim_cluster_laws.proofs.Runs.{runs_followed}
use Rattle.sim_cluster_laws.proofs.cluster_laws.runs_are_followed.Goals as goal

pub returns : goal.returns
returns c = runs_followed
