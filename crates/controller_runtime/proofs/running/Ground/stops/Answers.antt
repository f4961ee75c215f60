use Rattle.controller_runtime.proofs.Runs.{begins}
use Rattle.controller_runtime.proofs.running.Ground.stops.Goals as goal

pub returns-clause-ready : goal.returns-clause-ready
returns-clause-ready g c = (tt, begins g.K.Named.order g.C.Reconciler.owes g.C.Reconciler.ends g.K.Named.says c.args.self.now.board.now c.args.pass c.requires)
