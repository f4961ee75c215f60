use Rattle.list_and_watch.specs.Gone.{Tells}
use Rattle.list_and_watch.specs.Told.{told}
use Rattle.list_and_watch.proofs.Gone.{publishes, gives}
use Rattle.list_and_watch.proofs.Joined.{goes_both}
use Rattle.list_and_watch.proofs.listing.give.Goals as goal

pub returns-in_err-publish-clause-goes : goal.returns-in_err-publish-clause-goes
returns-in_err-publish-clause-goes g c d =
    publishes g.S.Sink.takes g.S.Sink.refuses g.S.Sink.answers g.S.Sink.hears c.publish.result c.args.follower.now c.publish.new.follower c.args.owed.now c.publish.new.self d c.args.sink.now
    c.publish.ensures.published c.publish.ensures.owed c.publish.ensures.cause c.publish.ensures.err

pub returns-clause-goes : goal.returns-clause-goes
returns-clause-goes g c d =
    let f = c.publish.new.follower in
    let o = c.publish.new.self in
    let now = c.args.sink.now in
    goes_both (Tells g.S.Sink.takes g.S.Sink.refuses g.S.Sink.answers g.S.Sink.hears) (told c.args.follower.now c.args.owed.now d) (told f o d) (told f c.give.new.self d) now now c.give.new.sink
    (publishes g.S.Sink.takes g.S.Sink.refuses g.S.Sink.answers g.S.Sink.hears c.publish.result c.args.follower.now f c.args.owed.now o d now c.publish.ensures.published c.publish.ensures.owed c.publish.ensures.cause c.publish.ensures.err)
    (gives g.S.Sink.takes g.S.Sink.refuses g.S.Sink.answers g.S.Sink.hears c.give.result f c.look.result.now o c.give.new.self d now c.give.new.sink c.look.ensures
    c.give.ensures.given c.give.ensures.taken c.give.ensures.cause c.give.ensures.refused c.give.ensures.err)
