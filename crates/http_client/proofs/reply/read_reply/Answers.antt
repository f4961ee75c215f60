use Rattle.std.proofs.Common.{refl, arith}
use Rattle.chunked.specs.Devices.{device_of}
use Rattle.http_client.proofs.Replies.{reply_whole, reply_short, reply_in_chunks, reply_other, head_longer, stated_within, patience_says}
use Rattle.http_client.proofs.reply.read_reply.Goals as goal

pub returns-in-Ok-read_body-clause-read : goal.returns-in-Ok-read_body-clause-read
returns-in-Ok-read_body-clause-read g c =
    reply_whole c.args.most (g.R.Read.remaining (device_of c.args.reader.now)) (g.R.Read.remaining (device_of c.read_head.new.reader)) (g.R.Read.remaining (device_of c.read_body.new.reader))
    c.in-Ok.head c.in-Length.size (record { code = c.in-Ok.head.code; body = c.in-Ok-read_body.body.items })
    c.in-Ok.ensures.read c.in-Length.is c.in-Ok-read_body.ensures.read c.in-Ok-read_body.ensures.whole refl

pub returns-in-Err-read_body-clause-none : goal.returns-in-Err-read_body-clause-none
returns-in-Err-read_body-clause-none g c = λ is.
    reply_short c.args.most (g.R.Read.remaining (device_of c.args.reader.now)) (g.R.Read.remaining (device_of c.read_head.new.reader)) c.in-Ok.head c.in-Length.size
    c.in-Ok.ensures.read c.in-Length.is (c.in-Err-read_body.ensures.short is)

pub returns-in-Chunked-clause-none : goal.returns-in-Chunked-clause-none
returns-in-Chunked-clause-none g c = λ is.
    reply_in_chunks c.args.most (g.R.Read.remaining (device_of c.args.reader.now)) (g.R.Read.remaining (device_of c.read_head.new.reader)) c.in-Ok.head c.in-Ok.ensures.read c.in-Chunked.is

pub returns-in-Other-clause-none : goal.returns-in-Other-clause-none
returns-in-Other-clause-none g c = λ is.
    reply_other c.args.most (g.R.Read.remaining (device_of c.args.reader.now)) (g.R.Read.remaining (device_of c.read_head.new.reader)) c.in-Ok.head c.in-Ok.ensures.read c.in-Other.is

pub returns-in-TooLong-clause-long : goal.returns-in-TooLong-clause-long
returns-in-TooLong-clause-long g c = λ is.
    head_longer c.args.most (g.R.Read.remaining (device_of c.args.reader.now)) (g.R.Read.remaining (device_of c.read_head.new.reader)) c.in-Ok.head c.in-Ok.ensures.read c.in-TooLong.is

pub returns-in-Ok-read_body-clause-within : goal.returns-in-Ok-read_body-clause-within
returns-in-Ok-read_body-clause-within g c =
    let within = stated_within c.args.most (g.R.Read.remaining (device_of c.args.reader.now)) (g.R.Read.remaining (device_of c.read_head.new.reader)) c.in-Ok.head c.in-Length.size c.in-Ok.ensures.read c.in-Length.is in
    omega (arith, within, c.in-Ok-read_body.ensures.whole)

pub returns-in-Ok-read_body-clause-patience : goal.returns-in-Ok-read_body-clause-patience
returns-in-Ok-read_body-clause-patience g c =
    patience_says c.args.most (g.R.Read.remaining (device_of c.args.reader.now)) (g.R.Read.remaining (device_of c.read_head.new.reader)) c.in-Ok.head c.in-Ok.head.retry_after
    c.in-Ok.ensures.read refl
