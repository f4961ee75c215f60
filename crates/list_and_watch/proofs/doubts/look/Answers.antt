use Rattle.std.proofs.Common.{subst}
use Rattle.list_and_watch.specs.Exchanged.{IsFound, idle, left_for}
use Rattle.list_and_watch.proofs.Dealt.{found_moves, hears_of, moves_both}
use Rattle.list_and_watch.proofs.doubts.look.Goals as goal

pub returns-then-look-ne1-clause-found : goal.returns-then-look-ne1-clause-found
returns-then-look-ne1-clause-found g c =
    let s = c.ask-look.result in
    subst (λ m. IsFound g.A.Api.exchanges c.args.kind m c.args.api.now s.recognized s.milliseconds c.ask-look.new.api) c.look.ensures c.ask-look.ensures

pub returns-then-look-ne1-clause-goes : goal.returns-then-look-ne1-clause-goes
returns-then-look-ne1-clause-goes g c =
    let s = c.ask-look.result in
    let k = c.args.kind in
    let api = c.ask-look.new.api in
    found_moves g.S.Sink.takes g.S.Sink.refuses g.S.Sink.answers g.S.Sink.hears g.A.Api.exchanges k s.recognized s.milliseconds c.args.follower.now c.heed.new.follower c.args.sink.now c.args.api.now api
    (subst (λ m. IsFound g.A.Api.exchanges k m c.args.api.now s.recognized s.milliseconds api) c.look.ensures c.ask-look.ensures) c.heed.ensures

pub returns-clause-found : goal.returns-clause-found
returns-clause-found g c =
    let s = c.ask-look.result in
    subst (λ m. IsFound g.A.Api.exchanges c.args.kind m c.args.api.now s.recognized s.milliseconds c.ask-look.new.api) c.look.ensures c.ask-look.ensures

pub returns-clause-goes : goal.returns-clause-goes
returns-clause-goes g c =
    let s = c.ask-look.result in
    let k = c.args.kind in
    let f = c.args.follower.now in
    let p = c.heed.new.follower in
    let free = left_for s.milliseconds in
    let before = c.args.sink.now in
    let after = c.other_server.new.self in
    let api = c.ask-look.new.api in
    moves_both g.S.Sink.takes g.S.Sink.refuses g.S.Sink.answers g.S.Sink.hears g.A.Api.exchanges k f p p idle free free (before, c.args.api.now) (before, api) (after, api)
    (found_moves g.S.Sink.takes g.S.Sink.refuses g.S.Sink.answers g.S.Sink.hears g.A.Api.exchanges k s.recognized s.milliseconds f p before c.args.api.now api
    (subst (λ m. IsFound g.A.Api.exchanges k m c.args.api.now s.recognized s.milliseconds api) c.look.ensures c.ask-look.ensures) c.heed.ensures)
    (hears_of g.S.Sink.takes g.S.Sink.refuses g.S.Sink.answers g.S.Sink.hears g.A.Api.exchanges k p free before after api c.other_server.ensures.hears)
