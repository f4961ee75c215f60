use Rattle.std.proofs.Common.{◌++◌, Some, None, subst}
use Rattle.chunked.specs.Bodies.{last_chunk}
use Rattle.http_connection.proofs.Going.{end_stands, ends_led}
use Rattle.http_connection.specs.Looking.{Adds}
use Rattle.http_connection.proofs.ending.end_watch.Goals as goal

pub returns-in-Some-clause-stands : goal.returns-in-Some-clause-stands
returns-in-Some-clause-stands g c read written d stands =
    let adds = subst (λ t. Adds c.args.watching (t ++ last_chunk) None c.with_end.result) c.new.ensures.items c.with_end.ensures in
    end_stands g.S.Site.Calls g.S.Site.Lists g.S.WatchSource.Begins g.S.WatchSource.Watches c.args.watching c.with_end.result read written d stands (Some c.in-Some.field-0) c.in-Some.is adds

pub returns-in-Some-clause-led : goal.returns-in-Some-clause-led
returns-in-Some-clause-led g c =
    let adds = subst (λ t. Adds c.args.watching (t ++ last_chunk) None c.with_end.result) c.new.ensures.items c.with_end.ensures in
    ends_led c.args.watching (Some c.in-Some.field-0) c.with_end.result adds
