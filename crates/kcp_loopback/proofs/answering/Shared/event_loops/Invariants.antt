use Rattle.std.proofs.Common.{◌≡◌, ◌++◌, All, length, map, reverse}
use Rattle.desk.specs.Desks.{IsNewAt, known}
use Rattle.desk.specs.Seats.{known_at}
use Rattle.kcp_loopback.specs.Serving.{IsNewOf, seat_of}
use Rattle.kcp_loopback.proofs.answering.Shared.event_loops.Given as goal

-- what is made has the last of the passes, the last of all first
abbrev pub invariant-loop-pass : goal.invariant-loop-pass
invariant-loop-pass g l =
    All (IsNewAt l.self.desk.now) l.passes.items
    × (length l.places.items ≡ length l.passes.items)
    × All (IsNewOf l.self.desk.now) l.made.items
    × (map known l.fn.passes.items ≡ map known l.passes.items ++ reverse (map (λ e. known_at (seat_of e)) l.made.items))

abbrev pub decreases-loop-pass : goal.decreases-loop-pass
decreases-loop-pass g l = length l.passes.items
