use Rattle.chunked.specs.Devices.{device_of}
use Rattle.line_service.proofs.Progress.{IsUnderWay}
use Rattle.line_service.proofs.run_loop.run.Given as goal

abbrev pub invariant-loop : goal.invariant-loop
invariant-loop g l =
    IsUnderWay g.S.LineService.reply g.S.LineService.next g.S.LineService.refusal l.fn.service (g.R.Read.remaining (device_of l.fn.reader)) (g.R.Read.remaining (device_of l.reader)) (g.W.Write.contents (device_of l.fn.writer)) (g.W.Write.contents (device_of l.writer)) l.service
