use Rattle.list_and_watch.specs.Exchanged.{idle, left_for}
use Rattle.list_and_watch.specs.Told.{told}
use Rattle.list_and_watch.proofs.Joined.{beside_clock}
use Rattle.list_and_watch.proofs.running.ask_next.Goals as goal

pub returns-in-List-clause-goes : goal.returns-in-List-clause-goes
returns-in-List-clause-goes g c =
    beside_clock g.S.Sink.takes g.S.Sink.refuses g.S.Sink.answers g.S.Sink.hears g.A.Api.exchanges c.args.kind g.T.Timer.shows g.T.Timer.waits c.args.timer.now (told c.args.follower.now c.args.owed.now idle)
    (told c.list.new.follower c.list.new.owed (left_for c.list.result.milliseconds)) (c.args.sink.now, c.args.api.now) (c.list.new.sink, c.list.new.api) c.list.ensures.goes
