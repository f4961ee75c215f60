use Rattle.crossbeam_queue.specs.Passes.{view}
use Rattle.desk.proofs.Stepping.{taken, held}
use Rattle.desk.proofs.desks.Desk.take.Goals as goal

pub returns-clause-holding : goal.returns-clause-holding
returns-clause-holding g c =
    let h = held g.A.Asking.MayAsk (view c.args.pass.now) (view c.take.new.pass) c.take.result c.args.self.now.window c.take.ensures.taken c.requires.1 in (c.take.ensures.pass.1, h.0, h.1, h.2)

pub returns-clause-taken : goal.returns-clause-taken
returns-clause-taken g c = taken g.A.Asking.MayAsk (view c.args.pass.now) (view c.take.new.pass) c.take.result c.take.ensures.taken c.requires.0.1
