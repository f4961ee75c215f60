use Rattle.list_and_watch.specs.Exchanged.{at_opened, idle, left_for}
use Rattle.list_and_watch.specs.Gone.{Deals, Does}
use Rattle.list_and_watch.specs.Told.{told}
use Rattle.list_and_watch.proofs.Dealt.{opens}
use Rattle.list_and_watch.proofs.Gone.{at_owed}
use Rattle.list_and_watch.proofs.Joined.{beside_clock, goes_both}
use Rattle.list_and_watch.proofs.running.ask_watch.Goals as goal

pub returns-clause-goes : goal.returns-clause-goes
returns-clause-goes g c =
    let k = c.args.kind in
    let f = c.args.follower.now in
    let p = c.on_opened.new.self in
    let o = c.args.owed.now in
    let a = c.open_watch-opened.result in
    let b = c.args.sink.now in
    let before = c.args.api.now in
    let after = c.open_watch-opened.new.self in
    let x = c.args.timer.now in
    let end = told c.read_on.new.follower c.read_on.new.owed (left_for c.read_on.result.milliseconds) in
    goes_both (Does g.S.Sink.takes g.S.Sink.refuses g.S.Sink.answers g.S.Sink.hears g.A.Api.exchanges g.T.Timer.shows g.T.Timer.waits k) (told f o idle) (told p o (at_opened a)) end (b, before, x) (b, after, x) (c.read_on.new.sink, c.read_on.new.api, c.read_on.new.timer)
    (beside_clock g.S.Sink.takes g.S.Sink.refuses g.S.Sink.answers g.S.Sink.hears g.A.Api.exchanges k g.T.Timer.shows g.T.Timer.waits x (told f o idle) (told p o (at_opened a)) (b, before) (b, after)
    (at_owed (Deals g.S.Sink.takes g.S.Sink.refuses g.S.Sink.answers g.S.Sink.hears g.A.Api.exchanges k) f p o idle (at_opened a) (b, before) (b, after) (opens g.S.Sink.takes g.S.Sink.refuses g.S.Sink.answers g.S.Sink.hears g.A.Api.exchanges k c.args.revision a f p b before after c.requires c.open_watch-opened.ensures c.on_opened.ensures)))
    (c.read_on.ensures.goes k)
