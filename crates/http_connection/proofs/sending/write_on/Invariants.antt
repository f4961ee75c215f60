use Rattle.http_connection.specs.Sending.{IsSent}
use Rattle.http_connection.specs.Stopping.{device_in, has_stopped}
use Rattle.http_connection.proofs.sending.write_on.Given as goal

-- so many of the bytes are written
abbrev pub invariant-loop : goal.invariant-loop
invariant-loop g l = IsSent (g.W.Write.contents (device_in l.fn.writer)) (g.W.Write.contents (device_in l.writer)) l.fn.bytes l.fn.taken l.at
