use Rattle.std.proofs.Common.{◌∙◌, ap}
use Rattle.std.specs.Prelude.{option_map}
use Rattle.shared_keyed_board.specs.Passes.{sight}
use Rattle.controller_runtime.proofs.Runs.{taken, reconciling, letting_go, comes_back, on_err}
use Rattle.controller_runtime.proofs.turning.next.Goals as goal

pub returns-in_ok-turn-in-Ok-Some-clause-goes_on : goal.returns-in_ok-turn-in-Ok-Some-clause-goes_on
returns-in_ok-turn-in-Ok-Some-clause-goes_on g c =
    let says = g.K.Named.says in
    let R = g.K.Named.order in
    let owes = g.C.Reconciler.owes in
    let ends = g.C.Reconciler.ends in
    let before = sight says c.args.pass.now in
    let between = sight says c.take.new.pass in
    let after = sight says c.turn.new.pass in (
      c.turn.ensures.pass,
      c.turn.ensures.free,
      reconciling R owes ends says c.in-Ok-Some.hand c.turn.new.self.listers.listers between after c.in_ok-turn-in-Ok-Some.ensures.reconciled (taken R owes ends says c.take.result before between c.take.ensures.step c.requires.2),
    )

pub returns-in_err-turn-in-Ok-Some-clause-over : goal.returns-in_err-turn-in-Ok-Some-clause-over
returns-in_err-turn-in-Ok-Some-clause-over g c =
    let says = g.K.Named.says in
    let R = g.K.Named.order in
    let owes = g.C.Reconciler.owes in
    let ends = g.C.Reconciler.ends in
    let before = sight says c.args.pass.now in
    let between = sight says c.take.new.pass in
    let after = sight says c.turn.new.pass in
    on_err c.from_residual.result _ (
      c.turn.ensures.pass,
      c.turn.ensures.free,
      letting_go R owes ends says (says c.in-Ok-Some.hand) between after c.in_err-turn-in-Ok-Some.ensures.over (taken R owes ends says c.take.result before between c.take.ensures.step c.requires.2),
    )

pub returns-in-Ok-None-clause-goes_on : goal.returns-in-Ok-None-clause-goes_on
returns-in-Ok-None-clause-goes_on g c =
    let says = g.K.Named.says in (
      c.take.ensures.pass,
      c.in-Ok-None.ensures.key ∙ ap (option_map says) c.in-Ok-None.field-0-is,
      taken g.K.Named.order g.C.Reconciler.owes g.C.Reconciler.ends says c.take.result (sight says c.args.pass.now) (sight says c.take.new.pass) c.take.ensures.step c.requires.2,
    )

pub returns-in_ok-rest-in-Err-clause-goes_on : goal.returns-in_ok-rest-in-Err-clause-goes_on
returns-in_ok-rest-in-Err-clause-goes_on g c =
    let says = g.K.Named.says in (
      c.take.ensures.pass,
      c.in-Err.ensures.none,
      taken g.K.Named.order g.C.Reconciler.owes g.C.Reconciler.ends says c.take.result (sight says c.args.pass.now) (sight says c.take.new.pass) c.take.ensures.step c.requires.2,
    )

pub returns-in_err-rest-in-Err-clause-over : goal.returns-in_err-rest-in-Err-clause-over
returns-in_err-rest-in-Err-clause-over g c =
    let says = g.K.Named.says in
    let R = g.K.Named.order in
    let owes = g.C.Reconciler.owes in
    let ends = g.C.Reconciler.ends in
    on_err c.from_residual-in_err-rest-in-Err.result _ (comes_back R owes ends says c.args.board.now c.take.new.pass
    (c.take.ensures.pass, c.in-Err.ensures.none, taken R owes ends says c.take.result (sight says c.args.pass.now) (sight says c.take.new.pass) c.take.ensures.step c.requires.2))
