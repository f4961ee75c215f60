use Rattle.std.proofs.Common.{sym, subst}
use Rattle.list_and_watch.specs.Exchanged.{idle, left_for}
use Rattle.list_and_watch.specs.Gone.{AsksOnce, Does}
use Rattle.list_and_watch.specs.Told.{told}
use Rattle.list_and_watch.proofs.Joined.{asks_and_goes, asks_beside}
use Rattle.list_and_watch.proofs.running.try_once.Goals as goal

pub returns-in-Failed-clause-asks : goal.returns-in-Failed-clause-asks
returns-in-Failed-clause-asks g c =
    let k = c.args.kind in
    let does = Does g.S.Sink.takes g.S.Sink.refuses g.S.Sink.answers g.S.Sink.hears g.A.Api.exchanges g.T.Timer.shows g.T.Timer.waits k in
    let f = c.args.follower.now in
    let p = c.publish.new.follower in
    let o = c.args.known.now.owed in
    let e = c.publish.new.owed in
    let api = c.args.api.now in
    let x = c.args.timer.now in
    let b = c.args.sink.now in
    let m = c.publish.new.sink in
    let there = asks_beside g.S.Sink.takes g.S.Sink.refuses g.S.Sink.answers g.S.Sink.hears g.A.Api.exchanges k g.T.Timer.shows g.T.Timer.waits api x (told f o idle) (told p e idle) b m (c.publish.ensures.asks idle) in
    subst (λ n. AsksOnce does (told f o idle) (b, api, x) (told p e (left_for n)) (m, api, x)) (sym c.requires) there

pub returns-in-Stopped-clause-asks : goal.returns-in-Stopped-clause-asks
returns-in-Stopped-clause-asks g c =
    let k = c.args.kind in
    let does = Does g.S.Sink.takes g.S.Sink.refuses g.S.Sink.answers g.S.Sink.hears g.A.Api.exchanges g.T.Timer.shows g.T.Timer.waits k in
    let f = c.args.follower.now in
    let p = c.publish.new.follower in
    let o = c.args.known.now.owed in
    let e = c.publish.new.owed in
    let api = c.args.api.now in
    let x = c.args.timer.now in
    let b = c.args.sink.now in
    let m = c.publish.new.sink in
    let there = asks_beside g.S.Sink.takes g.S.Sink.refuses g.S.Sink.answers g.S.Sink.hears g.A.Api.exchanges k g.T.Timer.shows g.T.Timer.waits api x (told f o idle) (told p e idle) b m (c.publish.ensures.asks idle) in
    subst (λ n. AsksOnce does (told f o idle) (b, api, x) (told p e (left_for n)) (m, api, x)) (sym c.requires) there

pub returns-in-Done-clause-asks : goal.returns-in-Done-clause-asks
returns-in-Done-clause-asks g c =
    let k = c.args.kind in
    let does = Does g.S.Sink.takes g.S.Sink.refuses g.S.Sink.answers g.S.Sink.hears g.A.Api.exchanges g.T.Timer.shows g.T.Timer.waits k in
    let f = c.args.follower.now in
    let p = c.publish.new.follower in
    let o = c.args.known.now.owed in
    let e = c.publish.new.owed in
    let api = c.args.api.now in
    let x = c.args.timer.now in
    let b = c.args.sink.now in
    let m = c.publish.new.sink in
    let there = asks_beside g.S.Sink.takes g.S.Sink.refuses g.S.Sink.answers g.S.Sink.hears g.A.Api.exchanges k g.T.Timer.shows g.T.Timer.waits api x (told f o idle) (told p e idle) b m (c.publish.ensures.asks idle) in
    let end = told c.look_and_ask.new.follower c.look_and_ask.new.known.owed (left_for c.look_and_ask.new.known.milliseconds) in
    asks_and_goes does (told f o idle) (told p e idle) end (b, api, x) (m, api, x) (c.look_and_ask.new.sink, c.look_and_ask.new.api, c.look_and_ask.new.timer) there c.look_and_ask.ensures.goes
