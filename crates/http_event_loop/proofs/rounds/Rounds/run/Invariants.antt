use Rattle.http_event_loop.specs.Asked.{HasAsked}
use Rattle.http_event_loop.proofs.rounds.Rounds.run.Given as goal

-- so much was asked as was counted
abbrev pub invariant-loop : goal.invariant-loop
invariant-loop g l = HasAsked g.S.Site.Calls g.S.Site.Lists g.S.WatchSource.Begins g.S.WatchSource.Watches l.fn.asker l.asker
