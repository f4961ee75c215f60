use Rattle.std.proofs.Common.{option_map, subst, sym}
use Rattle.meta.specs.Writes.{write_of}
use Rattle.sim_cluster.specs.ClusterStates.{ClusterState}
use Rattle.sim_cluster.specs.Requested.{IsWriteOf}
use Rattle.sim_cluster.proofs.Answered.{cluster_of}
use Rattle.sim_cluster.proofs.Requests.{room_for, standing_taken}
use Rattle.sim_cluster.proofs.clusters.Cluster.take_write.Goals as goal

pub take-requires : goal.take-requires
take-requires c =
    let o = option_map write_of c.args.write in
    room_for c.self.inside.recorded.session o (subst (λ (w : ClusterState). IsWriteOf w.session o) (sym c.self.view_is) c.requires)

pub invariant_of-self : goal.invariant_of-self
invariant_of-self c =
    let o = option_map write_of c.args.write in
    let w = cluster_of c.self.inside.recorded c.self.inside.initial c.self.inside.followers in
    standing_taken w o c.take.new.self c.take.result c.take.ensures.session c.take.ensures.journal c.take.ensures.err (subst (λ (z : ClusterState). IsWriteOf z.session o) (sym c.self.view_is) c.requires) c.self.invariant
