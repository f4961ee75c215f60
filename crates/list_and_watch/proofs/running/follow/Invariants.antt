use Rattle.std.proofs.Common.{◌≡◌}
use Rattle.list_and_watch.specs.Exchanged.{left_for}
use Rattle.list_and_watch.specs.Given.{StaysSo}
use Rattle.list_and_watch.specs.Gone.{Does, HasGone}
use Rattle.list_and_watch.specs.Told.{told, told_nothing}
use Rattle.list_and_watch.proofs.running.follow.Given as goal

abbrev pub invariant-loop-tries : goal.invariant-loop-tries
invariant-loop-tries g l = record {
  gone : HasGone (Does g.S.Sink.takes g.S.Sink.refuses g.S.Sink.answers g.S.Sink.hears g.A.Api.exchanges g.T.Timer.shows g.T.Timer.waits l.kind) l._tries (told_nothing l.fn.follower)
      (l.fn.sink, l.fn.api, l.fn.timer) (told l.follower l.known.owed (left_for l.known.milliseconds)) (l.sink, l.api, l.timer);
  free : l.known.milliseconds ≡ 0;
  stays : StaysSo g.S.Sink.stays l.fn.sink l.sink;
}
