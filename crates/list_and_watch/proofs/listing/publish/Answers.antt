use Rattle.list_and_watch.specs.Gone.{Tells}
use Rattle.list_and_watch.specs.Told.{told}
use Rattle.list_and_watch.proofs.Gone.{stops_as}
use Rattle.list_and_watch.proofs.Joined.{asks, asked_goes, goes_to_ask}
use Rattle.list_and_watch.proofs.listing.publish.Goals as goal

pub returns-clause-asks : goal.returns-clause-asks
returns-clause-asks g c d =
    let does = Tells g.S.Sink.takes g.S.Sink.refuses g.S.Sink.answers g.S.Sink.hears in
    let t = told c.give-given.new.follower c.give-given.new.owed d in
    let between = c.give-given.new.sink in
    let now = c.goes_on-onward.new.self in
    goes_to_ask does (told c.args.follower.now c.args.owed.now d) t t c.args.sink.now between now (c.give-given.ensures.goes d)
    (asks does c.goes_on-onward.result t between now (tt, c.goes_on-onward.ensures.answers))

pub returns-clause-goes : goal.returns-clause-goes
returns-clause-goes g c d =
    let does = Tells g.S.Sink.takes g.S.Sink.refuses g.S.Sink.answers g.S.Sink.hears in
    let t = told c.give-given.new.follower c.give-given.new.owed d in
    let between = c.give-given.new.sink in
    let now = c.goes_on-onward.new.self in
    asked_goes does (told c.args.follower.now c.args.owed.now d) t c.args.sink.now now
    (goes_to_ask does (told c.args.follower.now c.args.owed.now d) t t c.args.sink.now between now (c.give-given.ensures.goes d)
    (asks does c.goes_on-onward.result t between now (tt, c.goes_on-onward.ensures.answers)))

pub returns-clause-stops : goal.returns-clause-stops
returns-clause-stops g c = stops_as c.tried_of.result c.is_ok.result c.goes_on-onward.result g.S.Sink.answers c.give-given.new.sink c.goes_on-onward.new.self c.tried_of.ensures c.goes_on-onward.ensures.answers
