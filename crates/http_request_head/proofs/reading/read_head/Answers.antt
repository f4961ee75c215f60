use Rattle.std.proofs.Common.{rules, ◌≡◌, ◌≤◌, length, false, sym, ◌∙◌, subst}
use Rattle.httparse.specs.Grammar.{MayBecomeRequest, HasNoRequest}
use Rattle.spec_http.specs.Connections.{longest_head}
use Rattle.http_request_head.specs.Reading.{IsFound}
use Rattle.http_request_head.proofs.Wholes.{too_long, reads_on}
use Rattle.http_request_head.proofs.reading.read_head.Goals as goal

pub look_at_end-requires-clause-unfinished : goal.look_at_end-requires-clause-unfinished
look_at_end-requires-clause-unfinished g c =
    let none : c.in-Ok-false.field-0 ≡ false = search rules in
    let same : c.read_piece.new.bytes.items ≡ c.loop-bytes.bytes.items = (c.in-Ok-false.ensures.end none).0 in
    subst MayBecomeRequest (c.as_slice.ensures.value ∙ sym same ∙ sym c.as_slice-in-Ok-false.ensures.value) (c.look.ensures.unfinished c.in-None.is)

pub returns-in-Ok-false-clause-found : goal.returns-in-Ok-false-clause-found
returns-in-Ok-false-clause-found g c =
    subst (λ b. IsFound b c.look.new.fields c.look_at_end.result) c.as_slice-in-Ok-false.ensures.value (c.look_at_end.ensures c.look.new.fields)

pub returns-in-None-look-clause-found : goal.returns-in-None-look-clause-found
returns-in-None-look-clause-found g c =
    let long : longest_head ≤ length c.loop-bytes.bytes.items = search rules in
    too_long c.loop-bytes.bytes.items long c.loop-bytes.invariant.1 (subst HasNoRequest c.as_slice-2.ensures.value (c.look-2.ensures.none c.in-None-look.is))

pub returns-in-Err-clause-read : goal.returns-in-Err-clause-read
returns-in-Err-clause-read g c =
    reads_on (g.R.Read.remaining c.args.reader.now.device) (g.R.Read.remaining c.loop-bytes.reader.device) (g.R.Read.remaining c.read_piece.new.reader.device)
    c.args.bytes.now.items c.loop-bytes.bytes.items c.read_piece.new.bytes.items c.loop-bytes.invariant.0 c.in-Err.ensures.read
