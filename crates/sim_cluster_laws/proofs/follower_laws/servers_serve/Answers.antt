use Rattle.sim_cluster_laws.proofs.Serving.{servers_serve}
use Rattle.sim_cluster_laws.proofs.follower_laws.servers_serve.Goals as goal

pub returns : goal.returns
returns c = servers_serve
