use Rattle.sim_cluster.proofs.Answered.{cluster_of, standing_compacted}
use Rattle.sim_cluster.proofs.clusters.Cluster.compact.Goals as goal

pub invariant_of-self-2 : goal.invariant_of-self-2
invariant_of-self-2 c =
    let w = cluster_of c.self.inside.recorded c.self.inside.initial c.self.inside.followers in
    standing_compacted w c.args.revision c.compact.new.self.session c.compact.new.self.journal c.in_ok-reply.ensures.session c.in_ok-reply.ensures.journal c.self.invariant
