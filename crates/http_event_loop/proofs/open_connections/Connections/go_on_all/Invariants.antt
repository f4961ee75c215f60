use Rattle.http_event_loop.specs.Asked.{HasAsked}
use Rattle.http_event_loop.proofs.open_connections.Connections.go_on_all.Given as goal

-- so much was asked as was counted
abbrev pub invariant-loop-key : goal.invariant-loop-key
invariant-loop-key g l = HasAsked g.S.Site.Calls g.S.Site.Lists g.S.WatchSource.Begins g.S.WatchSource.Watches l.fn.asker l.asker
