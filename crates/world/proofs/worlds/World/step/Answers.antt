use Rattle.std.proofs.Common.{subst}
use Rattle.sim_steps.specs.PlaneSteps.{plane_step_of}
use Rattle.world.specs.Standing.{Stands}
use Rattle.world.specs.Outcomes.{outcome_of}
use Rattle.world.proofs.Headlines.{headline_after}
use Rattle.world.proofs.Stood.{traced_after, told_of_plane}
use Rattle.world.proofs.worlds.World.step.Goals as goal

pub returns-clause-traced : goal.returns-clause-traced
returns-clause-traced c = traced_after c.args.self.now c.take.new.self (plane_step_of c.args.wanted) c.take.result c.take.ensures.after

pub returns-clause-tells : goal.returns-clause-tells
returns-clause-tells c = told_of_plane outcome_of c.args.self.now (plane_step_of c.args.wanted) c.take.result (subst Stands c.self.view_is c.self.invariant) c.take.ensures.told

pub returns-clause-headline : goal.returns-clause-headline
returns-clause-headline c =
    headline_after c.args.self.now c.take.new.self (plane_step_of c.args.wanted) c.take.result (subst Stands c.self.view_is c.self.invariant) c.take.ensures.after c.take.ensures.err
