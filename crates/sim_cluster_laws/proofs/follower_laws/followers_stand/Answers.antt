use Rattle.sim_cluster_laws.proofs.Growing.{stand}
use Rattle.sim_cluster_laws.proofs.follower_laws.followers_stand.Goals as goal

pub returns : goal.returns
returns c = stand
