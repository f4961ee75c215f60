use Rattle.std.proofs.Common.{◌≡◌, ◌≤◌, ◌-◌, length, false}
use Rattle.std.specs.Io.KnownBytes.{Consumes}
use Rattle.chunked.specs.Devices.{device_of, has_failed}
use Rattle.http_client.proofs.body.read_body.Given as goal

-- what was read so far is the body, and is no longer than it
abbrev pub invariant-loop-body : goal.invariant-loop-body
invariant-loop-body g l =
    Consumes (g.R.Read.remaining (device_of l.fn.reader)) (g.R.Read.remaining (device_of l.reader)) l.body.items
    × (length l.body.items ≤ l.size) × (has_failed l.reader ≡ false)

-- how much of the body is left
abbrev pub decreases-loop-body : goal.decreases-loop-body
decreases-loop-body g l = l.size - length l.body.items
