use Rattle.std.proofs.Common.{refl, arith}
use Rattle.request_decoding.specs.Asked.{asked_seen}
use Rattle.http_connection.proofs.Readable.{some_can}
use Rattle.http_event_loop.proofs.Chains.{asks_one}
use Rattle.http_event_loop.proofs.asker.Asker.answer.Goals as goal

pub answer-requires : goal.answer-requires
answer-requires g c = record { asked = some_can (asked_seen c.args.asked) c.requires.asks }

pub returns-clause-asked : goal.returns-clause-asked
returns-clause-asked g c =
    asks_one g.S.Site.Calls g.S.Site.Lists g.S.WatchSource.Begins g.S.WatchSource.Watches c.args.self.now _ c.args.moment (asked_seen c.args.asked) c.answer.result c.requires.asks c.answer.ensures.answers refl
    (omega arith)
