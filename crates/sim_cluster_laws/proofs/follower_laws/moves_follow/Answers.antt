use Rattle.sim_cluster_laws.proofs.Moving.{moves_follow}
use Rattle.sim_cluster_laws.proofs.follower_laws.moves_follow.Goals as goal

pub returns : goal.returns
returns c = moves_follow
