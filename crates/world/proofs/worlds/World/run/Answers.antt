use Rattle.std.proofs.Common.{subst}
use Rattle.world.specs.Standing.{Stands}
use Rattle.world.proofs.Headlines.{headline_run, traced_ok, traced_stopped}
use Rattle.world.proofs.worlds.World.run.Goals as goal

pub returns-clause-traced : goal.returns-clause-traced
returns-clause-traced c = traced_ok c.args.self.now c.take_all.new.self c.args.steps.now c.take_all.result c.take_all.ensures.ok

pub returns-clause-stopped_traced : goal.returns-clause-stopped_traced
returns-clause-stopped_traced c = traced_stopped c.args.self.now c.take_all.new.self c.args.steps.now c.take_all.result c.take_all.ensures.stopped

pub returns-clause-headline : goal.returns-clause-headline
returns-clause-headline c =
    headline_run c.args.self.now c.take_all.new.self c.args.steps.now c.take_all.result (subst Stands c.self.view_is c.self.invariant) c.take_all.ensures.ok c.take_all.ensures.stopped
