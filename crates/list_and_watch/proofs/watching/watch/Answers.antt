use Rattle.std.proofs.Common.{ap}
use Rattle.list_and_watch.specs.Exchanged.{idle, watching}
use Rattle.list_and_watch.specs.Gone.{Does, SaysStop}
use Rattle.list_and_watch.specs.Told.{told, told_cut}
use Rattle.list_and_watch.proofs.Gone.{looks, stops_left}
use Rattle.list_and_watch.proofs.Joined.{beside_clock, goes_both, still}
use Rattle.list_and_watch.proofs.watching.watch.Goals as goal

pub returns-clause-goes : goal.returns-clause-goes
returns-clause-goes g c k =
    let does = Does g.S.Sink.takes g.S.Sink.refuses g.S.Sink.answers g.S.Sink.hears g.A.Api.exchanges g.T.Timer.shows g.T.Timer.waits k in
    let t = told c.args.follower.now c.args.owed.now watching in
    let o = c.read-left.new.owed in
    let u = told_cut c.read-left.new.follower o in
    let v = told c.on_cut.new.self o idle in
    let b = c.args.sink.now in
    let e = c.read-left.new.sink in
    let p = c.args.api.now in
    let q = c.read-left.new.api in
    let x = c.args.timer.now in
    let y = c.now-opened.new.self in
    let z = c.now.new.self in
    goes_both does t t v (b, p, x) (b, p, y) (e, q, z) (looks g.S.Sink.takes g.S.Sink.refuses g.S.Sink.answers g.S.Sink.hears g.A.Api.exchanges g.T.Timer.shows g.T.Timer.waits k c.now-opened.result t b p x y c.now-opened.ensures)
    (goes_both does t u v (b, p, y) (e, q, y) (e, q, z) (beside_clock g.S.Sink.takes g.S.Sink.refuses g.S.Sink.answers g.S.Sink.hears g.A.Api.exchanges k g.T.Timer.shows g.T.Timer.waits y t u (b, p) (e, q) (c.read-left.ensures.goes k))
    (goes_both does u v v (e, q, y) (e, q, y) (e, q, z) (still does u v (e, q, y) (ap (λ f. told f o idle) c.on_cut.ensures)) (looks g.S.Sink.takes g.S.Sink.refuses g.S.Sink.answers g.S.Sink.hears g.A.Api.exchanges g.T.Timer.shows g.T.Timer.waits k c.now.result v e q y z c.now.ensures)))

pub returns-clause-stops : goal.returns-clause-stops
returns-clause-stops g c = stops_left c.tried_after.result c.read-left.result c.saturating_sub.result (SaysStop g.S.Sink.answers c.read-left.new.sink) c.tried_after.ensures c.read-left.ensures.stops
