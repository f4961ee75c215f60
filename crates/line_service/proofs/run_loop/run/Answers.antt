use Rattle.std.proofs.Common.{◌≡◌, ◌<◌, [], length, IfSome, arith, rules}
use Rattle.std.specs.Io.BufRead.{take_through, strip_last}
use Rattle.std.proofs.lemmas.Result.{err_from_is_err_and}
use Rattle.chunked.specs.Devices.{device_of}
use Rattle.line_service.specs.Answers.{is_refusal}
use Rattle.line_service.specs.Replies.{reply_or_refusal}
use Rattle.line_service.proofs.Progress.{IsUnderWay-step, IsUnderWay-ended, IsUnderWay-stopped, IsUnderWay-cut, first_line_read, want-other}
use Rattle.line_service.proofs.run_loop.run.Goals as goal

pub returns-in-Err-clause-ended : goal.returns-in-Err-clause-ended
returns-in-Err-clause-ended g c =
    IsUnderWay-stopped g.S.LineService.reply g.S.LineService.next g.S.LineService.refusal _ _ (g.R.Read.remaining (device_of c.loop.reader)) _ _ c.loop.service _ c.unread.ensures.reader c.loop.invariant

pub returns-then-count-eq0-clause-ok : goal.returns-then-count-eq0-clause-ok
returns-then-count-eq0-clause-ok g c =
    let none : IfSome (g.R.Read.remaining (device_of c.loop.reader)) (λ rest. rest ≡ []) = search rules in
    IsUnderWay-ended g.S.LineService.reply g.S.LineService.next g.S.LineService.refusal _ _ (g.R.Read.remaining (device_of c.loop.reader)) _ _ c.loop.service none c.loop.invariant

-- a line for which there was no memory, and nothing that tells so
pub returns-in_err-answer-clause-ended : goal.returns-in_err-answer-clause-ended
returns-in_err-answer-clause-ended g c =
    let stopped = IsUnderWay-stopped g.S.LineService.reply g.S.LineService.next g.S.LineService.refusal _ _ (g.R.Read.remaining (device_of c.loop.reader)) _ _ c.loop.service _ want-other c.loop.invariant in
    let p = err_from_is_err_and c.from_residual.result c.from_residual.ensures.1 in
    rw (p.1, p.2, c.in_err-answer.ensures.fault, c.in_err-answer.ensures.err) stopped

pub loop-preserved : goal.loop-preserved
loop-preserved g c =
    let came : IfSome (g.R.Read.remaining (device_of c.loop.reader)) (λ rest. c.read_through.new.buf.items ≡ take_through 10 rest) = search rules in
    let some : 0 < length c.read_through.new.buf.items = omega (arith, c.in-Ok.ensures.count) in
    let stripped : c.without_newline.result.now ≡ strip_last 10 c.read_through.new.buf.items = search rules in
    let written : c.text.result.now ≡ reply_or_refusal g.S.LineService.reply g.S.LineService.refusal c.loop.service (c.without_newline.result.now, is_refusal c.in_ok-answer.answer) = search rules in
    IsUnderWay-step g.S.LineService.reply g.S.LineService.next g.S.LineService.refusal _ _ (g.R.Read.remaining (device_of c.loop.reader)) _ _ _ _ _ _ c.without_newline.result.now _ (is_refusal c.in_ok-answer.answer)
    c.loop.invariant (first_line_read _ _ _ _ came c.in-Ok.ensures.rest some stripped) c.in_ok-answer.ensures.may c.in_ok-send.ensures.ok written c.in_ok-answer.ensures.state

-- a reply that was not written whole
pub returns-in_err-send-clause-ended : goal.returns-in_err-send-clause-ended
returns-in_err-send-clause-ended g c =
    let came : IfSome (g.R.Read.remaining (device_of c.loop.reader)) (λ rest. c.read_through.new.buf.items ≡ take_through 10 rest) = search rules in
    let some : 0 < length c.read_through.new.buf.items = omega (arith, c.in-Ok.ensures.count) in
    let stripped : c.without_newline.result.now ≡ strip_last 10 c.read_through.new.buf.items = search rules in
    let written : c.text.result.now ≡ reply_or_refusal g.S.LineService.reply g.S.LineService.refusal c.loop.service (c.without_newline.result.now, is_refusal c.in_ok-answer.answer) = search rules in
    let cut = IsUnderWay-cut g.S.LineService.reply g.S.LineService.next g.S.LineService.refusal _ _ (g.R.Read.remaining (device_of c.loop.reader)) _ _ _ _ c.loop.service _ c.without_newline.result.now _ (is_refusal c.in_ok-answer.answer)
    c.loop.invariant (first_line_read _ _ _ _ came c.in-Ok.ensures.rest some stripped) c.in_ok-answer.ensures.may c.in_err-send.ensures.err written c.in_ok-answer.ensures.state in
    let p = err_from_is_err_and c.from_residual-in_err-send.result c.from_residual-in_err-send.ensures.1 in
    rw (p.1, p.2, c.in_err-send.ensures.fault) cut

pub returns-clause-ended : goal.returns-clause-ended
returns-clause-ended g c =
    IsUnderWay-stopped g.S.LineService.reply g.S.LineService.next g.S.LineService.refusal _ _ (g.R.Read.remaining (device_of c.loop.reader)) _ _ c.loop.service _ want-other c.loop.invariant
