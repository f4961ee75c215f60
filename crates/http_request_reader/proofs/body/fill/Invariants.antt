use Rattle.std.proofs.Common.{◌≡◌, ◌-◌, length, take, false}
use Rattle.chunked.specs.Devices.{device_of, has_failed}
use Rattle.http_request_reader.proofs.Filling.{IsFilled}
use Rattle.http_request_reader.proofs.body.fill.Given as goal

-- what was read so far stands after the front, from a reader that has not failed
abbrev pub invariant-loop-filled : goal.invariant-loop-filled
invariant-loop-filled g l =
    IsFilled (take l.front l.initial.body) l.body l.filled (g.R.Read.remaining (device_of l.initial.reader)) (g.R.Read.remaining (device_of l.reader))
    × (length l.body ≡ length l.initial.body)
    × (has_failed l.reader ≡ false)

-- how much of the body is not filled
abbrev pub decreases-loop-filled : goal.decreases-loop-filled
decreases-loop-filled g l = length l.initial.body - l.filled
