use Rattle.std.proofs.Common.{sym, subst}
use Rattle.spec_api.specs.Targets.{asked}
use Rattle.request_parts.specs.Queried.{query_seen}
use Rattle.request_parts.specs.RoutesSeen.{route_seen}
use Rattle.request_decoding.specs.Asked.{Asks}
use Rattle.request_decoding.proofs.asking.ask.Goals as goal

pub returns-in-Status : goal.returns-in-Status
returns-in-Status c =
    subst (λ target. Asks (asked c.args.method (route_seen target) (query_seen c.args.query) c.args.body.now) c.ask_status.result)
    (sym c.in-Status.is) (c.ask_status.ensures (query_seen c.args.query))
