use Rattle.sim_cluster.proofs.Answered.{cluster_of}
use Rattle.sim_cluster.proofs.Handling.{standing_handled}
use Rattle.sim_cluster.proofs.clusters.Cluster.remove_oldest.Goals as goal

pub invariant_of-self : goal.invariant_of-self
invariant_of-self c =
    let w = cluster_of c.self.inside.recorded c.self.inside.initial c.self.inside.followers in
    standing_handled w c.args.kind c.get_mut.result.now c.remove_oldest.new.self c.get_mut.ensures.value c.remove_oldest.ensures c.self.invariant
