use Rattle.shared_keyed_board.specs.Passes.{sight}
use Rattle.controller_runtime.proofs.LookedBack.{still_back, all_of_run_if}
use Rattle.controller_runtime.proofs.histories.look_back.Goals as goal

pub returns-clause-back : goal.returns-clause-back
returns-clause-back g c =
    still_back g.K.Named.order g.C.Reconciler.owes g.C.Reconciler.ends g.K.Named.says c.args.board.now c.args.passes.now.items c.gather.new.others.items c.gather.ensures.same c.gather.ensures.others c.requires.back

pub returns-clause-history : goal.returns-clause-history
returns-clause-history g c =
    let says = g.K.Named.says in
    let back = still_back g.K.Named.order g.C.Reconciler.owes g.C.Reconciler.ends says c.args.board.now c.args.passes.now.items c.gather.new.others.items c.gather.ensures.same c.gather.ensures.others c.requires.back in
    all_of_run_if g.K.Named.order g.C.Reconciler.owes g.C.Reconciler.ends says c.gather.result c.args.board.now (sight says c.gather.new.one) c.gather.new.others.items c.gather.ensures.seen back
