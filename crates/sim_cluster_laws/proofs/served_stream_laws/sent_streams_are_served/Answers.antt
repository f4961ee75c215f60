use Rattle.sim_cluster_laws.proofs.TakenIn.{sent_served}
use Rattle.sim_cluster_laws.proofs.served_stream_laws.sent_streams_are_served.Goals as goal

pub returns : goal.returns
returns c = sent_served
