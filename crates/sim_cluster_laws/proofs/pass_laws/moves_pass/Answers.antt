use Rattle.sim_cluster_laws.proofs.PassMoves.{moves_pass}
use Rattle.sim_cluster_laws.proofs.pass_laws.moves_pass.Goals as goal

pub returns : goal.returns
returns c = moves_pass
