use Rattle.sim_cluster.proofs.Answered.{cluster_of, standing_answered}
use Rattle.sim_cluster.proofs.clusters.Cluster.answer.Goals as goal

pub invariant_of-self-2 : goal.invariant_of-self-2
invariant_of-self-2 c =
    let w = cluster_of c.self.inside.recorded c.self.inside.initial c.self.inside.followers in
    standing_answered w c.args.text.now c.serve_text.new.self.session c.serve_text.new.self.journal c.in_ok-reply.ensures.session c.in_ok-reply.ensures.journal c.self.invariant
