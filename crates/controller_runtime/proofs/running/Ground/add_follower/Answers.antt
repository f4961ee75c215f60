use Rattle.std.proofs.Common.{All, sym, subst}
use Rattle.std.proofs.lemmas.List.Elements.{All-push}
use Rattle.controller_runtime.specs.Threads.{IsReady}
use Rattle.controller_runtime.proofs.running.Ground.add_follower.Goals as goal

pub returns-in_ok-push-in-Some-clause-ready : goal.returns-in_ok-push-in-Some-clause-ready
returns-in_ok-push-in-Some-clause-ready g c =
    let ready = IsReady g.C.Reconciler.owes g.C.Reconciler.ends g.K.Named.says c.args.self.now.board.now in
    subst (All ready) (sym c.in_ok-push-in-Some.ensures.items) (All-push ready c.args.threads.now.items c.follows.result c.requires.ready c.follows.ensures)
