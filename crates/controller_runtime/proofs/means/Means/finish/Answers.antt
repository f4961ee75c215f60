use Rattle.std.proofs.Common.{rules, ap, ◌∙◌, sym, subst}
use Rattle.std.specs.Prelude.{Some}
use Rattle.keyed_board.specs.Steps as steps
use Rattle.keyed_board.specs.declared.outcome.Outcome.TheVariants.{Done}
use Rattle.shared_keyed_board.specs.Passes.{sight}
use Rattle.controller_runtime.specs.Reconciled.{Makes}
use Rattle.controller_runtime.proofs.Made.{made, makes_on, ticks_on}
use Rattle.controller_runtime.proofs.means.Means.finish.Goals as goal

pub returns-in-Ok-clause-finished : goal.returns-in-Ok-clause-finished
returns-in-Ok-clause-finished g c =
    let says = g.K.Named.says in
    let before = sight says c.args.pass.now in
    let between = sight says c.loop.pass in
    let after = sight says c.try_finish.new.pass in
    let step = steps.finish (says c.loop.hand) c.args.outcome in
    subst (λ h. Makes (steps.finish (says h) c.args.outcome) before after) c.loop.invariant.same (makes_on step before between after c.loop.invariant.ticks c.in-Ok.ensures.finished)

pub returns-in-Err-rest-clause-over : goal.returns-in-Err-rest-clause-over
returns-in-Err-rest-clause-over g c =
    let says = g.K.Named.says in
    let before = sight says c.args.pass.now in
    let between = sight says c.loop.pass in
    let later = sight says c.try_finish.new.pass in
    let after = sight says c.done.new.pass in
    let step = steps.finish (says c.in-Err.back) Done in
    let same = c.in-Err.ensures.still.0 ∙ c.loop.invariant.same in
    let ticks = ticks_on before between later c.loop.invariant.ticks c.in-Err.ensures.ticks in
    subst (λ h. Makes (steps.finish (says h) Done) before after) same (makes_on step before later after ticks (made g.K.Named.order step later after c.done.ensures.step))

pub loop-preserved : goal.loop-preserved
loop-preserved g c =
    let says = g.K.Named.says in
    let still = c.in-Err.ensures.still in
    let before = sight says c.args.pass.now in
    record {
      pass = c.try_finish.ensures.pass;
      same = still.0 ∙ c.loop.invariant.same;
      mine = still.1 ∙ c.loop.invariant.mine ∙ ap (λ h. Some (says h)) (sym still.0);
      ticks = ticks_on before (sight says c.loop.pass) (sight says c.try_finish.new.pass) c.loop.invariant.ticks c.in-Err.ensures.ticks;
      looked = c.try_finish.ensures.looked ∙ c.loop.invariant.looked;
      next = search rules;
      ends = search rules;
    }
