use Rattle.http_connection.specs.Lists.{IsListBegun, list_left}
use Rattle.http_connection.specs.Stopping.{device_in, has_stopped}
use Rattle.http_connection.proofs.list_sending.list_written.Given as goal

-- some of what is to be written was, and the rest is left
abbrev pub invariant-loop : goal.invariant-loop
invariant-loop g l = IsListBegun (g.W.Write.contents (device_in l.fn.writer)) (g.W.Write.contents (device_in l.writer)) l.fn.listing (list_left l.listing)
