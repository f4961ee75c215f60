use Rattle.sim_cluster_laws.proofs.Requests.{named_replaced}
use Rattle.sim_cluster_laws.proofs.cluster_laws.named_versions_are_replaced.Goals as goal

pub returns : goal.returns
returns c = named_replaced
