use Rattle.std.proofs.Common.{Some, inl, refl}
use Rattle.http_connection.proofs.Going.{look_stands, looks_led}
use Rattle.http_connection.proofs.looking.look_on.Goals as goal

pub returns-in-Some-clause-stands : goal.returns-in-Some-clause-stands
returns-in-Some-clause-stands g c read written d stands =
    look_stands g.S.Site.Calls g.S.Site.Lists g.S.WatchSource.Begins g.S.WatchSource.Watches c.args.watching c.args.source.now c.look_from.new.source c.look_from.result read written d stands
    (Some c.in-Some.at) c.in-Some.is c.look_from.ensures

pub returns-in-Some-clause-led : goal.returns-in-Some-clause-led
returns-in-Some-clause-led g c =
    looks_led g.S.WatchSource.Watches c.args.watching c.args.source.now c.look_from.new.source (Some c.in-Some.at) c.look_from.result c.look_from.ensures

pub returns-in-None-clause-stands : goal.returns-in-None-clause-stands
returns-in-None-clause-stands g c read written d stands = (d, inl (refl, refl), stands)
