use Rattle.std.proofs.Common.{None, refl, subst}
use Rattle.list_and_watch.specs.Exchanged.{at_piece, idle, watching}
use Rattle.list_and_watch.specs.Gone.{Deals, GoesOn}
use Rattle.list_and_watch.specs.Told.{told, told_cut}
use Rattle.list_and_watch.proofs.Gone.{at_owed, leaves_watch}
use Rattle.list_and_watch.proofs.Joined.{beside_server, goes_both}
use Rattle.list_and_watch.proofs.watching.read.Goals as goal

pub returns-in-Err-clause-goes : goal.returns-in-Err-clause-goes
returns-in-Err-clause-goes g c k =
    let does = Deals g.S.Sink.takes g.S.Sink.refuses g.S.Sink.answers g.S.Sink.hears g.A.Api.exchanges k in
    let t = told c.args.follower.now c.args.owed.now watching in
    let u = told c.loop.follower c.loop.owed watching in
    let f = c.read_once.new.follower in
    let o = c.loop.owed in
    let e = c.read_once.new.sink in
    let q = c.read_once.new.api in
    goes_both does t u (told_cut f o) (c.args.sink.now, c.args.api.now) (c.loop.sink, c.loop.api) (e, q) (c.loop.invariant.goes k)
    (goes_both does u (told f o idle) (told_cut f o) (c.loop.sink, c.loop.api) (e, q) (e, q)
    (at_owed does c.loop.follower f o watching idle (c.loop.sink, c.loop.api) (e, q) (c.in-Err.ensures.goes k)) (leaves_watch does f o idle (e, q) (tt, refl, refl) refl))

pub returns-in-Some-clause-goes : goal.returns-in-Some-clause-goes
returns-in-Some-clause-goes g c k =
    let does = Deals g.S.Sink.takes g.S.Sink.refuses g.S.Sink.answers g.S.Sink.hears g.A.Api.exchanges k in
    let t = told c.args.follower.now c.args.owed.now watching in
    let u = told c.loop.follower c.loop.owed watching in
    let d = at_piece c.in-Ok.piece None in
    let f = c.read_once.new.follower in
    let o = c.loop.owed in
    let e = c.read_once.new.sink in
    let q = c.read_once.new.api in
    let h = c.leaves.new.follower in
    let i = c.leaves.new.owed in
    let z = c.leaves.new.sink in
    goes_both does t u (told_cut h i) (c.args.sink.now, c.args.api.now) (c.loop.sink, c.loop.api) (z, q) (c.loop.invariant.goes k)
    (goes_both does u (told f o d) (told_cut h i) (c.loop.sink, c.loop.api) (e, q) (z, q)
    (at_owed does c.loop.follower f o watching d (c.loop.sink, c.loop.api) (e, q) (c.in-Ok.ensures.goes k))
    (goes_both does (told f o d) (told h i d) (told_cut h i) (e, q) (z, q) (z, q)
    (beside_server g.S.Sink.takes g.S.Sink.refuses g.S.Sink.answers g.S.Sink.hears g.A.Api.exchanges k q (told f o d) (told h i d) e z (c.leaves.ensures.goes d)) (leaves_watch does h i d (z, q) (tt, refl, refl) refl)))

pub loop-preserved : goal.loop-preserved
loop-preserved g c = record {
  goes =
      λ k.
      let does = Deals g.S.Sink.takes g.S.Sink.refuses g.S.Sink.answers g.S.Sink.hears g.A.Api.exchanges k in
      let t = told c.args.follower.now c.args.owed.now watching in
      let u = told c.loop.follower c.loop.owed watching in
      let d = at_piece c.in-Ok.piece None in
      let f = c.read_once.new.follower in
      let o = c.loop.owed in
      let e = c.read_once.new.sink in
      let q = c.read_once.new.api in
      let h = c.leaves.new.follower in
      let i = c.leaves.new.owed in
      let z = c.leaves.new.sink in
      subst (λ s. GoesOn does t (c.args.sink.now, c.args.api.now) (told h i (at_piece s None)) (z, q)) (c.leaves.ensures.on c.in_default.is)
      (goes_both does t u (told h i d) (c.args.sink.now, c.args.api.now) (c.loop.sink, c.loop.api) (z, q) (c.loop.invariant.goes k)
      (goes_both does u (told f o d) (told h i d) (c.loop.sink, c.loop.api) (e, q) (z, q)
      (at_owed does c.loop.follower f o watching d (c.loop.sink, c.loop.api) (e, q) (c.in-Ok.ensures.goes k))
      (beside_server g.S.Sink.takes g.S.Sink.refuses g.S.Sink.answers g.S.Sink.hears g.A.Api.exchanges k q (told f o d) (told h i d) e z (c.leaves.ensures.goes d))));
  stays = λ at so. c.leaves.ensures.stays at (c.read_once.ensures.stays at (c.loop.invariant.stays at so));
}

pub returns-clause-goes : goal.returns-clause-goes
returns-clause-goes g c k =
    let does = Deals g.S.Sink.takes g.S.Sink.refuses g.S.Sink.answers g.S.Sink.hears g.A.Api.exchanges k in
    let t = told c.args.follower.now c.args.owed.now watching in
    let f = c.loop.follower in
    let o = c.loop.owed in
    goes_both does t (told f o watching) (told_cut f o) (c.args.sink.now, c.args.api.now) (c.loop.sink, c.loop.api) (c.loop.sink, c.loop.api) (c.loop.invariant.goes k)
    (leaves_watch does f o watching (c.loop.sink, c.loop.api) (tt, refl, refl) refl)
