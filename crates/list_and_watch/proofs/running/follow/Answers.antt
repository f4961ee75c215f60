use Rattle.std.proofs.Common.{◌+◌, subst}
use Rattle.list_and_watch.specs.Exchanged.{left_for}
use Rattle.list_and_watch.specs.Gone.{Does, HasGone}
use Rattle.list_and_watch.specs.Told.{told, told_nothing}
use Rattle.list_and_watch.proofs.Gone.{stopped}
use Rattle.list_and_watch.proofs.running.follow.Goals as goal

pub returns-in-Stop-clause-follows : goal.returns-in-Stop-clause-follows
returns-in-Stop-clause-follows g c =
    let does = Does g.S.Sink.takes g.S.Sink.refuses g.S.Sink.answers g.S.Sink.hears g.A.Api.exchanges g.T.Timer.shows g.T.Timer.waits c.args.kind in
    let f = c.args.follower.now in
    let l = c.loop-tries in
    stopped does (l._tries + 1) _ f c.go_once.new.follower c.go_once.new.known.owed (left_for c.go_once.new.known.milliseconds) (c.args.sink.now, c.args.api.now, c.args.timer.now)
    (c.go_once.new.sink, c.go_once.new.api, c.go_once.new.timer) c.in-Stop.ensures.stops
    (c.go_once.ensures.asks l._tries (told_nothing f) (c.args.sink.now, c.args.api.now, c.args.timer.now)
    (subst (λ n. HasGone does l._tries (told_nothing f) (c.args.sink.now, c.args.api.now, c.args.timer.now) (told l.follower l.known.owed (left_for n)) (l.sink, l.api, l.timer)) l.invariant.free
    l.invariant.gone))
