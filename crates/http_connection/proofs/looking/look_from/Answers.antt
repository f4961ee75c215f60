use Rattle.std.proofs.Common.{rules, ◌<◌}
use Rattle.http_watch.specs.Watches.{most_idle}
use Rattle.http_connection.proofs.Looked.{shows_nothing}
use Rattle.http_connection.proofs.looking.look_from.Goals as goal

pub returns-in-Err : goal.returns-in-Err
returns-in-Err g c =
    let short : c.args.at.idle < most_idle = search rules in
    shows_nothing _ g.S.WatchSource.Watches c.args.watching c.args.at c.args.source.now c.take_look.new.source short c.in-Err.field-0 c.in-Err.ensures
