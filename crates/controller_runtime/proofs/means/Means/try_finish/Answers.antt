use Rattle.keyed_board.specs.Steps as steps
use Rattle.shared_keyed_board.specs.Passes.{sight}
use Rattle.controller_runtime.proofs.Made.{made_if, unmade_if, makes_on_ok, ticks_on_err}
use Rattle.controller_runtime.proofs.means.Means.try_finish.Goals as goal

pub returns-clause-finished : goal.returns-clause-finished
returns-clause-finished g c =
    let says = g.K.Named.says in
    let before = sight says c.args.pass.now in
    let between = sight says c.tick.new.pass in
    let after = sight says c.finish.new.pass in
    let step = steps.finish (says c.args.hand) c.args.outcome in
    makes_on_ok c.finish.result step before between after c.tick.ensures.ticks (made_if g.K.Named.order c.finish.result step between after c.finish.ensures.step)

pub returns-clause-ticks : goal.returns-clause-ticks
returns-clause-ticks g c =
    let says = g.K.Named.says in
    let before = sight says c.args.pass.now in
    let between = sight says c.tick.new.pass in
    let after = sight says c.finish.new.pass in
    let step = steps.finish (says c.args.hand) c.args.outcome in
    ticks_on_err c.finish.result before between after c.tick.ensures.ticks (unmade_if g.K.Named.order c.finish.result step between after c.finish.ensures.step)
