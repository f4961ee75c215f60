use Rattle.std.proofs.Common.{refl}
use Rattle.chunked.specs.Devices.{device_of}
use Rattle.http_client.proofs.Replies.{whole_says, bodiless_says, longer_says, head_within, patience_says}
use Rattle.http_client.proofs.whole.read_whole.Goals as goal

pub returns-in-Ok-body_framed-clause-says : goal.returns-in-Ok-body_framed-clause-says
returns-in-Ok-body_framed-clause-says g c =
    whole_says c.args.most (g.R.Read.remaining (device_of c.args.reader)) (g.R.Read.remaining (device_of c.read_head.new.reader)) c.in-Ok.head
    (record { code = c.in-Ok.head.code; body = c.in-Ok-body_framed.body.items }) c.in-Ok.ensures.read c.in-Ok-body_framed.ensures.read refl

pub returns-in-Err-body_framed-clause-none : goal.returns-in-Err-body_framed-clause-none
returns-in-Err-body_framed-clause-none g c = λ is.
    bodiless_says c.args.most (g.R.Read.remaining (device_of c.args.reader)) (g.R.Read.remaining (device_of c.read_head.new.reader)) c.in-Ok.head
    c.in-Ok.ensures.read (c.in-Err-body_framed.ensures.none is)

pub body_framed-requires-clause-stated : goal.body_framed-requires-clause-stated
body_framed-requires-clause-stated g c = head_within c.args.most (g.R.Read.remaining (device_of c.args.reader)) (g.R.Read.remaining (device_of c.read_head.new.reader)) c.in-Ok.head c.in-Ok.ensures.read

pub returns-in-Err-body_framed-clause-long : goal.returns-in-Err-body_framed-clause-long
returns-in-Err-body_framed-clause-long g c = λ is.
    longer_says c.args.most (g.R.Read.remaining (device_of c.args.reader)) (g.R.Read.remaining (device_of c.read_head.new.reader)) c.in-Ok.head
    c.in-Ok.ensures.read (c.in-Err-body_framed.ensures.long is)

pub returns-in-Ok-body_framed-clause-patience : goal.returns-in-Ok-body_framed-clause-patience
returns-in-Ok-body_framed-clause-patience g c =
    patience_says c.args.most (g.R.Read.remaining (device_of c.args.reader)) (g.R.Read.remaining (device_of c.read_head.new.reader)) c.in-Ok.head c.in-Ok.head.retry_after
    c.in-Ok.ensures.read refl
