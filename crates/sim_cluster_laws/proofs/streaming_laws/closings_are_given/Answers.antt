use Rattle.sim_cluster_laws.proofs.Closed.{closings_given}
use Rattle.sim_cluster_laws.proofs.streaming_laws.closings_are_given.Goals as goal

pub returns : goal.returns
returns c = closings_given
