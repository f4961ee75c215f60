use Rattle.std.proofs.Common.{rules, ◌<◌, ◌≤◌, ◌+◌, ◌∷◌, [], length, take, slice_set, refl, sym, subst, arith}
use Rattle.std.proofs.lemmas.List.{take_more_set, length-take-le}
use Rattle.std.proofs.KnownBytes.{Consumes-nil, Consumes-trans}
use Rattle.std.specs.Io.KnownBytes.{Consumes}
use Rattle.httparse.specs.Grammar.{ChunkLine, HasNoChunkLine}
use Rattle.httparse.specs.Spans.{IsChunkLineAt}
use Rattle.chunked.proofs.Lines.{nothing_is_no_line, line_read, line_malformed, line_too_long, goes_on}
use Rattle.chunked.proofs.line.read_size.Goals as goal
use Rattle.chunked.proofs.line.read_size.Goals.{then-byte-eq10+in-Ok-Partial, else-byte-eq10}

pub loop-len-init : goal.loop-len-init
loop-len-init g c = (Consumes-nil _, nothing_is_no_line _ refl, refl, c.requires)

pub returns-in-Ok-Complete-clause-size : goal.returns-in-Ok-Complete-clause-size
returns-in-Ok-Complete-clause-size g c =
    let line = c.loop-len.line in
    let n = c.loop-len.len in
    let inside : n < length line = search rules in
    let found : (l : ChunkLine) × IsChunkLineAt (take (n + 1) (slice_set line n c.in-Some.byte)) c.in-Ok-Complete.field-0-0-0 c.in-Ok-Complete.size l = search rules in
    line_read (take n line) c.in-Some.byte (take (n + 1) (slice_set line n c.in-Some.byte)) c.in-Ok-Complete.field-0-0-0 c.in-Ok-Complete.size
    (g.R.Read.remaining c.args.device.now.device) (g.R.Read.remaining c.loop-len.device.device) (g.R.Read.remaining c.byte.new.self.device)
    c.loop-len.invariant.1 (take_more_set line n c.in-Some.byte inside) (omega (arith, length-take-le n line (omega (arith, inside)), c.loop-len.invariant.2, inside))
    c.loop-len.invariant.0 (search rules) found.0 found.1

pub returns-in-Err-clause-fault : goal.returns-in-Err-clause-fault
returns-in-Err-clause-fault g c =
    let line = c.loop-len.line in
    let n = c.loop-len.len in
    let inside : n < length line = search rules in
    line_malformed (take n line) c.in-Some.byte (take (n + 1) (slice_set line n c.in-Some.byte))
    (g.R.Read.remaining c.args.device.now.device) (g.R.Read.remaining c.loop-len.device.device) (g.R.Read.remaining c.byte.new.self.device)
    (take_more_set line n c.in-Some.byte inside) c.loop-len.invariant.0 (search rules) c.in-Err.ensures.invalid

pub loop-len-preserved : goal.loop-len-preserved
loop-len-preserved g c =
    let line = c.loop-len.line in
    let n = c.loop-len.len in
    let inside : n < length line = search rules in
    let bytes = take_more_set line n c.in-Some.byte inside in
    let read : Consumes (g.R.Read.remaining c.loop-len.device.device) (g.R.Read.remaining c.byte.new.self.device) (c.in-Some.byte ∷ []) = search rules in (
      subst (Consumes (g.R.Read.remaining c.args.device.now.device) (g.R.Read.remaining c.byte.new.self.device)) (sym bytes)
          (Consumes-trans (g.R.Read.remaining c.args.device.now.device) (g.R.Read.remaining c.loop-len.device.device) (g.R.Read.remaining c.byte.new.self.device) (take n line) (c.in-Some.byte ∷ []) c.loop-len.invariant.0 read),
      elim c.if-byte-eq10.branch [
        | then-byte-eq10+in-Ok-Partial w ↦ rw w.in-Ok-Partial.field-0-is at w.in-Ok-Partial.ensures.partial
        | else-byte-eq10 w ↦ subst HasNoChunkLine (sym bytes) (goes_on (take n line) c.in-Some.byte c.loop-len.invariant.1 (search rules))
      ],
      search rules,
      search rules,
    )

pub returns-clause-fault : goal.returns-clause-fault
returns-clause-fault g c =
    let line = c.loop-len.line in
    let n = c.loop-len.len in
    let full : 256 ≤ n = search rules in
    let whole : n ≤ length line = search rules in
    line_too_long (take n line) (g.R.Read.remaining c.args.device.now.device) (g.R.Read.remaining c.loop-len.device.device)
    c.loop-len.invariant.1 (omega (arith, full, length-take-le n line whole)) c.loop-len.invariant.0
