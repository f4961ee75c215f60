use Rattle.std.proofs.Common.{All, sym, subst}
use Rattle.std.proofs.lemmas.List.Elements.{All-push}
use Rattle.controller_runtime.specs.Threads.{IsReady}
use Rattle.controller_runtime.proofs.running.with_stopper.Goals as goal

pub returns-clause-ready : goal.returns-clause-ready
returns-clause-ready g c =
    let ready = IsReady g.C.Reconciler.owes g.C.Reconciler.ends g.K.Named.says c.args.ground.now.board.now in
    subst (All ready) (sym c.in_ok-push.ensures.items) (All-push ready c.args.others.threads.items c.stops.result c.requires.ready c.stops.ensures.ready)

pub returns-clause-last : goal.returns-clause-last
returns-clause-last g c = (c.args.others.threads.items, c.stops.result, c.in_ok-push.ensures.items, c.stops.ensures.stopper)
