use Rattle.http_event_loop.proofs.Chains.{takes}
use Rattle.http_event_loop.proofs.beginnings.has_turn.Goals as goal

pub returns-clause-asked : goal.returns-clause-asked
returns-clause-asked g c =
    takes g.S.Site.Calls g.S.Site.Lists g.S.WatchSource.Begins g.S.WatchSource.Watches c.args.asker.now c.take.new.self c.take.result c.take.ensures.site c.take.ensures.asked c.take.ensures.taken c.take.ensures.none
