use Rattle.std.proofs.Common.{subst, map}
use Rattle.sim_steps.specs.Steps.{step_of}
use Rattle.sim_cluster.specs.Standing.{Stands}
use Rattle.sim_cluster.proofs.Headlines.{shown_run, risen_run, replaced_run}
use Rattle.sim_cluster.proofs.clusters.Cluster.run.Goals as goal

pub returns-clause-lists : goal.returns-clause-lists
returns-clause-lists c =
    shown_run c.args.self.now c.take_all.new.self c.args.steps.now c.take_all.result (subst Stands c.self.view_is c.self.invariant) c.take_all.ensures.ok c.take_all.ensures.stopped

pub returns-clause-rise : goal.returns-clause-rise
returns-clause-rise c =
    risen_run c.args.self.now c.take_all.new.self c.args.steps.now c.take_all.result (subst Stands c.self.view_is c.self.invariant) c.take_all.ensures.ok c.take_all.ensures.stopped

pub returns-clause-replaces : goal.returns-clause-replaces
returns-clause-replaces c = replaced_run c.args.self.now (map step_of c.args.steps.now) (subst Stands c.self.view_is c.self.invariant)
