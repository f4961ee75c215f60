use Rattle.std.proofs.Common.{◌≡◌, ◌+◌, length}
use Rattle.http_event_loop.specs.Counted.{taken_over}
use Rattle.http_event_loop.proofs.counting.count_taken.Given as goal

-- those that are left, and those that were counted, are all
abbrev pub invariant-loop-next : goal.invariant-loop-next
invariant-loop-next g l = taken_over l.left.items + l.taken.count ≡ taken_over l.fn.event_loops.items

abbrev pub decreases-loop-next : goal.decreases-loop-next
decreases-loop-next g l = length l.left.items
