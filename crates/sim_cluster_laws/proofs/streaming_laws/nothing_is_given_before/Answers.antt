use Rattle.sim_cluster_laws.proofs.Opening.{nothing_given}
use Rattle.sim_cluster_laws.proofs.streaming_laws.nothing_is_given_before.Goals as goal

pub returns : goal.returns
returns c = nothing_given
