use Rattle.sim_followers.specs.Outcomes.{outcome_of}
use Rattle.sim_steps.specs.Steps.{move_of}
use Rattle.sim_cluster.proofs.Answered.{cluster_of, lists_at, kept_standing, cluster_moved, outcome_moved}
use Rattle.sim_cluster.proofs.clusters.Cluster.moves.Goals as goal

pub make-requires : goal.make-requires
make-requires c =
    let w = cluster_of c.self.inside.recorded c.self.inside.initial c.self.inside.followers in
    lists_at w c.args.kind c.server-server.result.now c.get_mut.result.now c.get_mut.ensures.value c.server-server.ensures c.self.invariant

pub invariant_of-self : goal.invariant_of-self
invariant_of-self c =
    let w = cluster_of c.self.inside.recorded c.self.inside.initial c.self.inside.followers in
    kept_standing w c.args.self.now c.args.kind c.server-server.result.now (move_of c.args.movement) c.get_mut.result.now c.make.new.self c.self.view_is c.get_mut.ensures.value c.server-server.ensures c.self.invariant c.make.result c.make.ensures.after c.make.ensures.err

pub returns-clause-after : goal.returns-clause-after
returns-clause-after c =
    let w = cluster_of c.self.inside.recorded c.self.inside.initial c.self.inside.followers in
    cluster_moved w c.args.self.now c.args.kind c.server-server.result.now (move_of c.args.movement) c.get_mut.result.now c.make.new.self c.self.view_is c.get_mut.ensures.value c.server-server.ensures c.self.invariant c.make.result c.make.ensures.after

pub returns-clause-outcome : goal.returns-clause-outcome
returns-clause-outcome c =
    let w = cluster_of c.self.inside.recorded c.self.inside.initial c.self.inside.followers in
    outcome_moved w c.args.self.now c.args.kind c.server-server.result.now (move_of c.args.movement) c.get_mut.result.now c.make.new.self c.self.view_is c.get_mut.ensures.value c.server-server.ensures c.self.invariant outcome_of c.make.result c.make.ensures.outcome
