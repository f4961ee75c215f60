use Rattle.sim_cluster_laws.proofs.Rising.{rise}
use Rattle.sim_cluster_laws.proofs.follower_laws.moves_rise.Goals as goal

pub returns : goal.returns
returns c = rise
