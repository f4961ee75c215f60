use Rattle.http_connection.proofs.Reading.{ReadsTo}
use Rattle.http_connection.specs.Stopping.{device_in, has_stopped}
use Rattle.http_connection.proofs.turning.read_on.Given as goal

-- some more was read, and the request is not whole
abbrev pub invariant-loop : goal.invariant-loop
invariant-loop g l = ReadsTo (g.R.Read.remaining (device_in l.fn.reader)) (g.R.Read.remaining (device_in l.reader)) l.fn.arriving l.arriving
