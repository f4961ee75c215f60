use Rattle.shared_keyed_board.specs.Passes.{sight}
use Rattle.controller_runtime.proofs.Made.{ticked}
use Rattle.controller_runtime.proofs.means.Means.tick.Goals as goal

pub returns-clause-ticks : goal.returns-clause-ticks
returns-clause-ticks g c =
    let says = g.K.Named.says in
    ticked g.K.Named.order c.tick.result c.milliseconds-now.result (sight says c.args.pass.now) (sight says c.tick.new.pass) c.tick.ensures.step
