use Rattle.std.proofs.Common.{◌≡◌, ◌+◌, length}
use Rattle.http_event_loop.proofs.loops.open_places.Given as goal

-- as many places more as numbers so far
abbrev pub invariant-loop-number : goal.invariant-loop-number
invariant-loop-number g l = length l.places.items ≡ length l.fn.places.items + l.number
