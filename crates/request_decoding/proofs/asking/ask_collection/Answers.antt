use Rattle.std.proofs.Common.{sym, subst, option_map}
use Rattle.spec_api.specs.Targets.{asked, collection}
use Rattle.request_parts.specs.Queried.{query_seen}
use Rattle.request_parts.specs.RoutesSeen.{now}
use Rattle.request_decoding.specs.Asked.{Asks}
use Rattle.request_decoding.proofs.asking.ask_collection.Goals as goal

pub returns-in-Post : goal.returns-in-Post
returns-in-Post c =
    subst (λ method. Asks (asked method (collection c.args.kind (option_map now c.args.namespace)) (query_seen c.args.query) c.args.body.now) c.create.result)
    (sym c.in-Post.is) (c.create.ensures (query_seen c.args.query))
