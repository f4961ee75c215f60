use Rattle.shared_keyed_board.specs.Passes.{sight}
use Rattle.controller_runtime.proofs.Made.{ticked, looked, ticks_on}
use Rattle.controller_runtime.proofs.ticking.Ticker.tick.Goals as goal

pub returns-in-Ok-clause-ticks : goal.returns-in-Ok-clause-ticks
returns-in-Ok-clause-ticks g c =
    let says = g.K.Named.says in
    let before = sight says c.args.self.now.pass in
    let between = sight says c.tick.new.pass in
    let after = sight says c.rest_until_due.new.pass in
    ticks_on before between after (ticked g.K.Named.order c.tick.result c.milliseconds-now.result before between c.tick.ensures.step) (looked g.K.Named.order between after c.rest_until_due.ensures.step)

pub returns-in-Err-clause-ticks : goal.returns-in-Err-clause-ticks
returns-in-Err-clause-ticks g c =
    let says = g.K.Named.says in
    ticked g.K.Named.order c.tick.result c.milliseconds-now.result (sight says c.args.self.now.pass) (sight says c.tick.new.pass) c.tick.ensures.step
