use Rattle.std.proofs.Common.{subst, ap, ◌∙◌, arith}
use Rattle.spec_client_go.specs.ReadFrames.{reading, onto, line_read}
use Rattle.framing.specs.Decoders.{events_of, event_of}
use Rattle.framing.specs.Scans.{IsRead}
use Rattle.framing.proofs.OneLine.{reads_fault, reads_frame, reads_short, reads_long, end_after, events_of-push}
use Rattle.framing.proofs.lines.read_lines.Goals as goal

pub returns-in-Err-clause-reads : goal.returns-in-Err-clause-reads
returns-in-Err-clause-reads c =
    reads_fault (events_of c.loop-at.frames.items) c.args.bytes.now c.loop-at.rest.now c.loop-at.invariant.reads c.in-Some.at c.split_at.result.0.now c.in-Err.fault c.in-Some.ensures c.split_at.ensures.front
    (subst (λ f. IsRead f (line_read c.split_at.result.0.now)) c.in-Err.is c.in_ok-frame.ensures)

pub loop-at-preserved : goal.loop-at-preserved
loop-at-preserved c =
    let rest = c.loop-at.rest.now in
    let rest' = c.split_at-in-Some.result.1.now in
    let end = end_after c.args.bytes.now rest c.split_at.result.1.now rest' c.in-Some.at c.loop-at.invariant.end c.loop-at.invariant.shorter c.in-Some.ensures.0 c.split_at.ensures.back c.split_at-in-Some.ensures.back in
    let read = reads_frame (events_of c.loop-at.frames.items) c.args.bytes.now rest c.loop-at.invariant.reads c.in-Some.at c.split_at.result.0.now rest' (event_of c.in-Ok.frame) c.in-Some.ensures c.split_at.ensures.front
    (subst (λ f. IsRead f (line_read c.split_at.result.0.now)) c.in-Ok.is c.in_ok-frame.ensures) end.0 in
    record {
      within = omega arith;
      partial = tt;
      shorter = omega (arith, end.1, c.loop-at.invariant.shorter);
      end = end.2;
      reads = ap (λ es. onto es (reading rest')) (events_of-push c.loop-at.frames.items c.push.new.self.items c.in-Ok.frame c.in_ok-push-in-Ok.ensures.items) ∙ read;
    }

pub returns-then-rest-lt-LONGEST_FRAME-clause-reads : goal.returns-then-rest-lt-LONGEST_FRAME-clause-reads
returns-then-rest-lt-LONGEST_FRAME-clause-reads c =
    reads_short (events_of c.loop-at.frames.items) c.args.bytes.now c.loop-at.rest.now c.loop-at.invariant.reads c.in_default.ensures c.if-rest-lt-LONGEST_FRAME.true c.loop-at.invariant.end

pub returns-else-rest-lt-LONGEST_FRAME-clause-reads : goal.returns-else-rest-lt-LONGEST_FRAME-clause-reads
returns-else-rest-lt-LONGEST_FRAME-clause-reads c =
    reads_long (events_of c.loop-at.frames.items) c.args.bytes.now c.loop-at.rest.now c.loop-at.invariant.reads c.in_default.ensures c.if-rest-lt-LONGEST_FRAME.false
