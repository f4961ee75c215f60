use Rattle.std.proofs.Common.{subst}
use Rattle.api_client.specs.Exchanges.{first}
use Rattle.list_and_watch.specs.Exchanged.{asked}
use Rattle.list_and_watch.proofs.doubts.ask.Goals as goal

pub returns : goal.returns
returns g c =
    let a = c.first_at-answer.result in
    let between = c.first_at-answer.new.self in
    asked a between (subst (λ r. g.A.Api.exchanges c.args.api.now (first c.args.kind r a) between) c.revision-revision.ensures c.first_at-answer.ensures) c.understand.ensures c.milliseconds_asked.ensures
