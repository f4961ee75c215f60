use Rattle.sim_cluster_laws.proofs.Opening.{given_by_closing}
use Rattle.sim_cluster_laws.proofs.streaming_laws.given_by_the_closing.Goals as goal

pub returns : goal.returns
returns c = given_by_closing
