use Rattle.std.proofs.Common.{rules, ◌≡◌}
use Rattle.http_client.proofs.Watches.{ended_there}
use Rattle.http_client.proofs.more.read_more.Goals as goal

pub returns-in-Ok-eq0-clause-more : goal.returns-in-Ok-eq0-clause-more
returns-in-Ok-eq0-clause-more g c =
    let zero : c.in-Ok-eq0.field-0 ≡ 0 = search rules in
    ended_there g.R.Read.remaining c.args.watch.now c.read.new.self c.read.new.buf c.in-Ok-eq0.field-0 zero c.in-Ok-eq0.ensures.bytes (c.in-Ok-eq0.ensures.end zero c.requires.room)
    c.in-Ok-eq0.ensures.sound
