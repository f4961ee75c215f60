use Rattle.std.proofs.Common.{subst}
use Rattle.sim_steps.specs.Steps.{step_of}
use Rattle.sim_cluster.specs.Standing.{Stands}
use Rattle.sim_cluster.proofs.Headlines.{shown_after, risen_after, replaced_after}
use Rattle.sim_cluster.proofs.clusters.Cluster.step.Goals as goal

pub returns-clause-lists : goal.returns-clause-lists
returns-clause-lists c =
    shown_after c.args.self.now c.take.new.self (step_of c.args.wanted) c.take.result (subst Stands c.self.view_is c.self.invariant) c.take.ensures.after c.take.ensures.err

pub returns-clause-rise : goal.returns-clause-rise
returns-clause-rise c =
    risen_after c.args.self.now c.take.new.self (step_of c.args.wanted) c.take.result (subst Stands c.self.view_is c.self.invariant) c.take.ensures.after c.take.ensures.err

pub returns-clause-replaces : goal.returns-clause-replaces
returns-clause-replaces c =
    replaced_after c.args.self.now c.take.new.self (step_of c.args.wanted) c.take.result (subst Stands c.self.view_is c.self.invariant) c.take.ensures.after c.take.ensures.err
