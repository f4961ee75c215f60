use Rattle.std.proofs.Common.{rules}
use Rattle.chunked.specs.Devices.{device_of}
use Rattle.http_client.proofs.Replies.{head_refuses}
use Rattle.http_client.proofs.opening.open_watch.Goals as goal

pub returns-else-head-eq-OK-clause-opening : goal.returns-else-head-eq-OK-clause-opening
returns-else-head-eq-OK-clause-opening g c =
    let before = g.R.Read.remaining (device_of c.args.reader.now) in
    let after = g.R.Read.remaining (device_of c.read_head.new.reader) in
    head_refuses 67108864 before after c.in-Ok.head c.refused.result c.refused.ensures c.in-Ok.ensures.read (λ is. search rules) (λ chunked code. search rules)

pub returns-in-Length-clause-opening : goal.returns-in-Length-clause-opening
returns-in-Length-clause-opening g c =
    let before = g.R.Read.remaining (device_of c.args.reader.now) in
    let after = g.R.Read.remaining (device_of c.read_head.new.reader) in
    head_refuses 67108864 before after c.in-Ok.head c.refused-in-Length.result c.refused-in-Length.ensures c.in-Ok.ensures.read (λ is. search rules) (λ chunked code. search rules)
