use Rattle.controller_runtime.proofs.Runs.{begins}
use Rattle.controller_runtime.proofs.running.Ground.ticks.Goals as goal

pub returns : goal.returns
returns g c = (tt, begins g.K.Named.order g.C.Reconciler.owes g.C.Reconciler.ends g.K.Named.says c.args.self.now.board.now c.args.pass c.requires)
