use Rattle.std.proofs.Common.{rules, All, sym, subst}
use Rattle.std.proofs.lemmas.List.Elements.{All-push}
use Rattle.controller_runtime.specs.Threads.{IsReady}
use Rattle.controller_runtime.proofs.running.workers.Goals as goal

pub loop-api-preserved : goal.loop-api-preserved
loop-api-preserved g c =
    let ready = IsReady g.C.Reconciler.owes g.C.Reconciler.ends g.K.Named.says c.args.ground.now.board.now in (
      c.next_pass-pass.ensures.left,
      search rules,
      search rules,
      subst (All ready) (sym c.in_ok-push.ensures.items) (All-push ready c.loop-api.made.items c.works.result c.loop-api.invariant.3 c.works.ensures),
    )
