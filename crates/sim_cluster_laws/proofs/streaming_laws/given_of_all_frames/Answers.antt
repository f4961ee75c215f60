use Rattle.sim_cluster_laws.proofs.Opening.{given_of_all}
use Rattle.sim_cluster_laws.proofs.streaming_laws.given_of_all_frames.Goals as goal

pub returns : goal.returns
returns c = given_of_all
