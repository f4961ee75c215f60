use Rattle.std.proofs.Common.{sym, ap, subst, ◌∙◌}
use Rattle.list_and_watch.specs.Exchanged.{at_opened, left_for}
use Rattle.list_and_watch.specs.Gone.{Does, GoesOn, SaysStop}
use Rattle.list_and_watch.specs.Told.{told}
use Rattle.list_and_watch.proofs.Gone.{unopened_left, unstopped}
use Rattle.list_and_watch.proofs.Joined.{still}
use Rattle.list_and_watch.proofs.running.read_on.Goals as goal

pub returns-in-Open-clause-goes : goal.returns-in-Open-clause-goes
returns-in-Open-clause-goes g c k =
    let end = told c.watch.new.follower c.watch.new.owed (left_for c.watch.result.milliseconds) in
    subst (λ o. GoesOn (Does g.S.Sink.takes g.S.Sink.refuses g.S.Sink.answers g.S.Sink.hears g.A.Api.exchanges g.T.Timer.shows g.T.Timer.waits k) (told c.args.follower.now c.args.owed.now (at_opened o)) (c.args.sink.now, c.args.api.now, c.args.timer.now) end
    (c.watch.new.sink, c.watch.new.api, c.watch.new.timer)) (sym c.in-Open.is) (c.watch.ensures.goes k)

pub returns-in_default-clause-goes : goal.returns-in_default-clause-goes
returns-in_default-clause-goes g c k =
    let f = c.args.follower.now in
    let o = c.args.owed.now in
    still (Does g.S.Sink.takes g.S.Sink.refuses g.S.Sink.answers g.S.Sink.hears g.A.Api.exchanges g.T.Timer.shows g.T.Timer.waits k) (told f o (at_opened c.args.opened)) (told f o (left_for c.milliseconds_asked.result)) (c.args.sink.now, c.args.api.now, c.args.timer.now)
    (ap (λ d. told f o d) (ap left_for c.milliseconds_asked.ensures ∙ sym (unopened_left c.args.opened c.in_default.not-Open)))

pub returns-in_default-clause-stops : goal.returns-in_default-clause-stops
returns-in_default-clause-stops g c = unstopped c.args.unopened (SaysStop g.S.Sink.answers c.args.sink.now) c.requires
