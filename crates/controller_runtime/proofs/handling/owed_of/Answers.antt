use Rattle.std.proofs.Common.{rules, ◌≡◌, ◌++◌, map, sym, subst}
use Rattle.std.proofs.lemmas.Result.{IfOk-weaker}
use Rattle.indexer.specs.Shifted.{shift_of}
use Rattle.list_and_watch.specs.declared.causes.Cause.TheVariants.{LaterList}
use Rattle.reconciler.specs.Owing.{AreOwed}
use Rattle.reconciler.specs.Unchanged.{all_unchanged}
use Rattle.reconciler.proofs.Again.{both_owed}
use Rattle.controller_runtime.specs.Handled.{all_given}
use Rattle.controller_runtime.proofs.handling.owed_of.Goals as goal

pub returns-in-LaterList : goal.returns-in-LaterList
returns-in-LaterList g c =
    let maps = c.args.shown.now in
    let owes = g.C.Reconciler.owes maps in
    let ss = map shift_of c.args.changes.now in
    let later : LaterList ≡ c.args.cause = search rules in
    IfOk-weaker c.with_all.result _ _
    (λ all given.
    let (more, owed, is) = given in
    subst (λ cause. AreOwed owes (all_given cause maps ss) all.items) later
    (subst (AreOwed owes (ss ++ all_unchanged maps)) (sym is) (both_owed owes ss (all_unchanged maps) c.in_ok-keys.keys.items more c.in_ok-keys.ensures owed)))
    c.with_all.ensures
