use Rattle.keyed_board.specs.Steps as steps
use Rattle.keyed_board.specs.declared.outcome.Outcome.TheVariants.{Done}
use Rattle.shared_keyed_board.specs.Passes.{sight}
use Rattle.controller_runtime.proofs.Made.{made}
use Rattle.controller_runtime.proofs.Turned.{reconciled}
use Rattle.controller_runtime.proofs.means.Means.turn.Goals as goal

pub returns-in-Ok-clause-reconciled : goal.returns-in-Ok-clause-reconciled
returns-in-Ok-clause-reconciled g c =
    let says = g.K.Named.says in
    reconciled g.C.Reconciler.ends says c.finish.result c.args.hand c.key.result.now c.reconcile.new.self.listers.listers c.finish.new.self.listers.listers c.in-Ok.outcome
    (sight says c.args.pass.now) (sight says c.finish.new.pass) c.key.ensures c.finish.ensures.looked c.in-Ok.ensures c.finish.ensures.finished

pub returns-in-Err-clause-over : goal.returns-in-Err-clause-over
returns-in-Err-clause-over g c =
    let says = g.K.Named.says in
    made g.K.Named.order (steps.finish (says c.args.hand) Done) (sight says c.args.pass.now) (sight says c.done.new.pass) c.done.ensures.step
