use Rattle.sim_cluster_laws.proofs.Answered.{watches_answered}
use Rattle.sim_cluster_laws.proofs.served_stream_laws.initial_watches_are_answered.Goals as goal

pub returns : goal.returns
returns c = watches_answered
