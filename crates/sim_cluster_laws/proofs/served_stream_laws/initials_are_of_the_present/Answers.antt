use Rattle.sim_cluster_laws.proofs.Answered.{of_the_present}
use Rattle.sim_cluster_laws.proofs.served_stream_laws.initials_are_of_the_present.Goals as goal

pub returns : goal.returns
returns c = of_the_present
