use Rattle.controller_runtime.proofs.Runs.{comes_back}
use Rattle.controller_runtime.proofs.working.Worker.run.Goals as goal

pub returns-in_default : goal.returns-in_default
returns-in_default g c = comes_back g.K.Named.order g.C.Reconciler.owes g.C.Reconciler.ends g.K.Named.says c.args.board.now c.args.self.now.pass c.requires
