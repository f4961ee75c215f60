use Rattle.std.proofs.Common.{refl, arith}
use Rattle.http_event_loop.proofs.Chains.{asks_look}
use Rattle.http_event_loop.proofs.asker.Asker.look.Goals as goal

pub returns-clause-asked : goal.returns-clause-asked
returns-clause-asked g c =
    asks_look g.S.Site.Calls g.S.Site.Lists g.S.WatchSource.Begins g.S.WatchSource.Watches c.args.self.now _ c.args.watching c.args.watching.at c.look_on.result c.look_on.ensures.looks refl
    (omega arith)
