use Rattle.sim_cluster.proofs.Answered.{cluster_of, standing_restarted}
use Rattle.sim_cluster.proofs.clusters.Cluster.restart.Goals as goal

pub invariant_of-self : goal.invariant_of-self
invariant_of-self c =
    let w = cluster_of c.self.inside.recorded c.self.inside.initial c.self.inside.followers in
    standing_restarted w c.new_followers.result c.new_followers.ensures c.self.invariant
