use Rattle.std.proofs.Common.{refl, sym, subst}
use Rattle.list_and_watch.specs.Exchanged.{idle, left_for}
use Rattle.list_and_watch.specs.Gone.{AsksOnce, Does}
use Rattle.list_and_watch.specs.Told.{ask, told}
use Rattle.list_and_watch.proofs.Gone.{rests}
use Rattle.list_and_watch.proofs.Joined.{asks_and_goes, goes, goes_both}
use Rattle.list_and_watch.proofs.running.go_once.Goals as goal

pub returns-in-GoOn-clause-asks : goal.returns-in-GoOn-clause-asks
returns-in-GoOn-clause-asks g c =
    let k = c.args.kind in
    let does = Does g.S.Sink.takes g.S.Sink.refuses g.S.Sink.answers g.S.Sink.hears g.A.Api.exchanges g.T.Timer.shows g.T.Timer.waits k in
    let f = c.try_once.new.follower in
    let o = c.try_once.new.known.owed in
    let m = c.try_once.new.known.milliseconds in
    let t = told c.args.follower.now c.args.known.now.owed idle in
    let u = told f o (left_for m) in
    let b = c.try_once.new.sink in
    let e = c.goes_on.new.self in
    let p = c.try_once.new.api in
    let x = c.try_once.new.timer in
    let y = c.rest.new.timer in
    subst (λ n. AsksOnce does t (c.args.sink.now, c.args.api.now, c.args.timer.now) (told f o (left_for n)) (e, p, y)) (sym c.rest.ensures.over)
    (asks_and_goes does t u (told f o idle) (c.args.sink.now, c.args.api.now, c.args.timer.now) (b, p, x) (e, p, y) c.try_once.ensures.asks
    (goes_both does u u (told f o idle) (b, p, x) (e, p, x) (e, p, y) (goes does (ask c.goes_on.result) u u (b, p, x) (e, p, x) refl (c.goes_on.ensures.answers, refl, refl))
    (rests g.S.Sink.takes g.S.Sink.refuses g.S.Sink.answers g.S.Sink.hears g.A.Api.exchanges g.T.Timer.shows g.T.Timer.waits k m f o c.rest.result e p x y c.rest.ensures.rests)))

pub returns-in-Stop-clause-asks : goal.returns-in-Stop-clause-asks
returns-in-Stop-clause-asks g c =
    let k = c.args.kind in
    let does = Does g.S.Sink.takes g.S.Sink.refuses g.S.Sink.answers g.S.Sink.hears g.A.Api.exchanges g.T.Timer.shows g.T.Timer.waits k in
    let f = c.try_once.new.follower in
    let o = c.try_once.new.known.owed in
    let m = c.try_once.new.known.milliseconds in
    let t = told c.args.follower.now c.args.known.now.owed idle in
    let u = told f o (left_for m) in
    let b = c.try_once.new.sink in
    let e = c.goes_on.new.self in
    let p = c.try_once.new.api in
    let x = c.try_once.new.timer in
    asks_and_goes does t u u (c.args.sink.now, c.args.api.now, c.args.timer.now) (b, p, x) (e, p, x) c.try_once.ensures.asks
    (goes does (ask c.goes_on.result) u u (b, p, x) (e, p, x) refl (c.goes_on.ensures.answers, refl, refl))
