use Rattle.sim_cluster_laws.proofs.Runs.{revisions_rise}
use Rattle.sim_cluster_laws.proofs.cluster_laws.published_revisions_rise.Goals as goal

pub returns : goal.returns
returns c = revisions_rise
