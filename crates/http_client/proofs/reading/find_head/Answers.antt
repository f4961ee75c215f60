use Rattle.std.proofs.Common.{rules, ◌≤◌, ◌∷◌, [], length, sym, ap, subst, arith}
use Rattle.std.specs.Io.KnownBytes.{Consumes}
use Rattle.std.proofs.KnownBytes.{Consumes-nil}
use Rattle.httparse.specs.Grammar.{HasNoResponse}
use Rattle.httparse.specs.Spans.{ResponseOverflows}
use Rattle.chunked.specs.Devices.{device_of}
use Rattle.spec_http.specs.Connections.{longest_head, most_fields}
use Rattle.http_client.specs.Reading.{HasFound}
use Rattle.http_client.proofs.Heads.{nothing_is_no_head, goes_on, found_whole, overflow_none, long_none, one_more}
use Rattle.http_client.proofs.reading.find_head.Goals as goal

pub loop-reader-init : goal.loop-reader-init
loop-reader-init g c =
    let before = g.R.Read.remaining (device_of c.args.reader.now) in (
      subst (Consumes before before) (sym c.requires.empty) (Consumes-nil before),
      nothing_is_no_head c.args.bytes.now.items c.requires.empty,
      omega (arith, ap length c.requires.empty),
      c.requires.room,
      c.requires.sound,
    )

pub returns-in-Ok-Some-clause-found : goal.returns-in-Ok-Some-clause-found
returns-in-Ok-Some-clause-found g c =
    let has : HasFound c.as_slice.result.now c.look.new.fields c.in-Ok-Some.found = rw c.in-Ok-Some.field-0-is at c.in-Ok-Some.ensures.found in
    found_whole c.loop-reader.bytes.items c.in-Some.byte c.push.new.self.items c.look.new.fields c.in-Ok-Some.found c.loop-reader.invariant.1 c.in_ok-push.ensures.items
    (subst (λ t. HasFound t c.look.new.fields c.in-Ok-Some.found) c.as_slice.ensures.value has)

pub returns-in-Err-clause-none : goal.returns-in-Err-clause-none
returns-in-Err-clause-none g c = λ is.
    let before = g.R.Read.remaining (device_of c.args.reader.now) in
    let mid = g.R.Read.remaining (device_of c.loop-reader.reader) in
    let after = g.R.Read.remaining (device_of c.read_byte.new.reader) in
    let next : Consumes mid after (c.in-Some.byte ∷ []) = search rules in
    overflow_none before after c.push.new.self.items
    (one_more before mid after c.loop-reader.bytes.items c.push.new.self.items c.in-Some.byte c.in_ok-push.ensures.items c.loop-reader.invariant.0 next)
    (subst (ResponseOverflows most_fields) c.as_slice.ensures.value c.in-Err.ensures.none)

pub loop-reader-preserved : goal.loop-reader-preserved
loop-reader-preserved g c =
    let prev = c.loop-reader.bytes.items in
    let before = g.R.Read.remaining (device_of c.args.reader.now) in
    let mid = g.R.Read.remaining (device_of c.loop-reader.reader) in
    let after = g.R.Read.remaining (device_of c.read_byte.new.reader) in
    let next : Consumes mid after (c.in-Some.byte ∷ []) = search rules in
    let text = c.in_ok-push.ensures.items in (
      one_more before mid after prev c.push.new.self.items c.in-Some.byte text c.loop-reader.invariant.0 next,
      subst HasNoResponse (sym text) (goes_on prev c.in-Some.byte c.loop-reader.invariant.1 (search rules)),
      search rules,
      search rules,
      search rules,
    )

pub returns-clause-none : goal.returns-clause-none
returns-clause-none g c = λ is.
    let long : longest_head ≤ length c.loop-reader.bytes.items = search rules in
    long_none (g.R.Read.remaining (device_of c.args.reader.now)) (g.R.Read.remaining (device_of c.loop-reader.reader)) c.loop-reader.bytes.items
    c.loop-reader.invariant.1 long c.loop-reader.invariant.0
