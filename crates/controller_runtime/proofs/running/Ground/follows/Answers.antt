use Rattle.std.proofs.Common.{sym, subst}
use Rattle.controller_runtime.specs.Runs.{IsAtWork}
use Rattle.controller_runtime.proofs.Runs.{begins}
use Rattle.controller_runtime.proofs.running.Ground.follows.Goals as goal

pub returns : goal.returns
returns g c =
    let owes = g.C.Reconciler.owes in
    let ends = g.C.Reconciler.ends in
    let says = g.K.Named.says in
    let d = c.args.self.now.board.now in
    (c.new-handler.ensures.board, subst (IsAtWork owes ends says d) (sym c.new-handler.ensures.pass) (begins g.K.Named.order owes ends says d c.args.pass c.requires))
