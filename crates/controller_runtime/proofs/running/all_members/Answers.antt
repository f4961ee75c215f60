use Rattle.std.proofs.Common.{◌≡◌, ◌∙◌, ◌+◌, All, length, sym, subst, ap}
use Rattle.std.specs.Vec.{vec_len}
use Rattle.std.proofs.lemmas.Result.{IfOk-weaker}
use Rattle.std.proofs.lemmas.List.Elements.{All-push}
use Rattle.controller_runtime.specs.Threads.{IsReady}
use Rattle.controller_runtime.proofs.Counted.{all_counted}
use Rattle.controller_runtime.proofs.running.all_members.Goals as goal

pub with_followers-requires-clause-ready : goal.with_followers-requires-clause-ready
with_followers-requires-clause-ready g c κs within =
    let ready = IsReady g.C.Reconciler.owes g.C.Reconciler.ends g.K.Named.says c.args.ground.now.board.now in
    subst (All ready) (sym c.in_ok-push.ensures.items) (All-push ready c.in_ok-threads.threads.items c.ticks.result c.in_ok-threads.ensures.ready c.ticks.ensures)

pub returns-clause-count : goal.returns-clause-count
returns-clause-count g c =
    let asking = vec_len c.args.asking in
    let ticking = vec_len c.push.new.self in
    let kinds = vec_len c.in_ok-kinds.kinds in
    let others = vec_len c.in_ok-members.members.threads in
    let left = vec_len c.with_followers.new.passes in
    let four : kinds ≡ 4 = c.in_ok-kinds.kinds.ok.0 ∙ ap length c.in_ok-kinds.ensures in
    let first : ticking ≡ asking + 1 = c.in_ok-push.ensures.len ∙ ap (λ n. n + 1) c.in_ok-threads.ensures.made in
    IfOk-weaker c.with_stopper.result _ _ (λ m is. all_counted (vec_len m.threads) others left ticking kinds asking (vec_len c.args.passes.now) is c.in_ok-members.ensures.count first four c.requires.enough)
    c.with_stopper.ensures.count
