use Rattle.sim_cluster_laws.proofs.Opening.{nothing_of_pieces}
use Rattle.sim_cluster_laws.proofs.streaming_laws.nothing_is_given_of_pieces.Goals as goal

pub returns : goal.returns
returns c = nothing_of_pieces
