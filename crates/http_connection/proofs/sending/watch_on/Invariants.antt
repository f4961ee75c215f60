use Rattle.http_connection.specs.Sending.{IsWritten}
use Rattle.http_connection.specs.Stopping.{device_in, has_stopped}
use Rattle.http_connection.proofs.sending.watch_on.Given as goal

-- some of what is to be written was, and the rest is left
abbrev pub invariant-loop : goal.invariant-loop
invariant-loop g l = IsWritten (g.W.Write.contents (device_in l.fn.writer)) (g.W.Write.contents (device_in l.writer)) l.fn.watching l.watching
