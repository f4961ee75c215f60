use Rattle.std.proofs.Common.{rules, ◌<◌, ℕ, List, [], ◌++◌, length, false, Option, take, refl, sym, ap, subst}
use Rattle.std.proofs.KnownBytes.{Consumes-nil, Consumes-kept}
use Rattle.std.specs.Io.KnownBytes.{Keeps}
use Rattle.api.specs.declared.served.Served.TheVariants as served
use Rattle.http_connection.proofs.Reading.{ReadsTo, arrives_still, ends_half, reads_piece}
use Rattle.http_connection.specs.Arriving.{Arrives}
use Rattle.http_connection.specs.Stopping.{device_in, has_stopped}
use Rattle.http_connection.specs.declared.arriving.Arriving.{Arriving}
use Rattle.http_connection.specs.declared.phase.ConnectionPhase.TheVariants as phase
use Rattle.http_connection.proofs.turning.read_on.Goals.{in-Ok+in-Reading, in-Err+else-has_stopped+else-ne}
use Rattle.http_connection.proofs.turning.read_on.Goals as goal

-- a read that fails takes nothing
reads_kept : (a b c : Option (List ℕ)) (start now : Arriving) → ReadsTo a b start now → Keeps b c → ReadsTo a c start now
reads_kept a b c start now reads keeps read is =
    let r = reads read is in
    (r.0, Consumes-kept a b c r.0 r.1 keeps, r.2)

pub returns-in-Ok-eq0 : goal.returns-in-Ok-eq0
returns-in-Ok-eq0 g c =
    let n = c.in-Ok-eq0.field-0 in
    let room : 0 < length c.read.new.buf = search rules in
    let closed = phase.Closing served.NotAsked in
    reads_piece (has_stopped c.read.new.self) (g.R.Read.remaining (device_in c.args.reader.now)) (g.R.Read.remaining (device_in c.loop.reader)) (g.R.Read.remaining (device_in c.read.new.self)) c.args.arriving c.loop.arriving
    (take n c.read.new.buf) closed c.loop.invariant c.in-Ok-eq0.ensures.bytes.0
    (λ read is. subst (λ b. Arrives b (read ++ take n c.read.new.buf) closed) (sym (c.in-Ok-eq0.ensures.ended c.in-Ok-eq0.field-0-test room))
    (ends_half c.loop.arriving read (take n c.read.new.buf) (ap (λ k. take k c.read.new.buf) c.in-Ok-eq0.field-0-test) is))

pub returns-in_default : goal.returns-in_default
returns-in_default g c =
    reads_piece (has_stopped c.read.new.self) (g.R.Read.remaining (device_in c.args.reader.now)) (g.R.Read.remaining (device_in c.loop.reader)) (g.R.Read.remaining (device_in c.read.new.self)) c.args.arriving c.loop.arriving
    (take c.in-Ok.n c.read.new.buf) c.arrived.result c.loop.invariant c.in-Ok.ensures.bytes.0
    (λ read is. arrives_still (has_stopped c.read.new.self) (read ++ take c.in-Ok.n c.read.new.buf) c.arrived.result (c.arrived.ensures read is))

pub returns-then-has_stopped : goal.returns-then-has_stopped
returns-then-has_stopped g c =
    let mid = g.R.Read.remaining (device_in c.loop.reader) in
    let after = g.R.Read.remaining (device_in c.read.new.self) in
    let closed = phase.Closing served.NotAsked in
    reads_piece (has_stopped c.read.new.self) (g.R.Read.remaining (device_in c.args.reader.now)) mid after c.args.arriving c.loop.arriving [] closed c.loop.invariant
    (Consumes-kept mid mid after [] (Consumes-nil mid) c.in-Err.ensures.bytes)
    (λ read is. subst (λ b. Arrives b (read ++ []) closed) c.if-has_stopped.ensures (ends_half c.loop.arriving read [] refl is))

pub returns-then-ne : goal.returns-then-ne
returns-then-ne g c =
    let before = g.R.Read.remaining (device_in c.args.reader.now) in
    let mid = g.R.Read.remaining (device_in c.loop.reader) in
    let after = g.R.Read.remaining (device_in c.read.new.self) in
    reads_kept before mid after c.args.arriving c.loop.arriving c.loop.invariant c.in-Err.ensures.bytes

pub loop-preserved : goal.loop-preserved
loop-preserved g c =
    let before = g.R.Read.remaining (device_in c.args.reader.now) in
    let mid = g.R.Read.remaining (device_in c.loop.reader) in
    let after = g.R.Read.remaining (device_in c.read.new.self) in
    elim c.match-read.branch [
      | in-Ok+in-Reading w ↦
          let piece = take w.in-Ok.n c.read.new.buf in
          subst (ReadsTo before after c.args.arriving) (sym w.arriving-is)
          (reads_piece false before mid after c.args.arriving c.loop.arriving piece (phase.Reading w.in-Reading.more) c.loop.invariant w.in-Ok.ensures.bytes.0
          (λ read is. subst (Arrives false (read ++ piece)) w.in-Reading.is (w.arrived.ensures read is)))
      | in-Err+else-has_stopped+else-ne w ↦
          subst (ReadsTo before after c.args.arriving) (sym w.arriving-is) (reads_kept before mid after c.args.arriving c.loop.arriving c.loop.invariant w.in-Err.ensures.bytes)
    ]
