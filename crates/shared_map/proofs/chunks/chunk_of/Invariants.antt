use Rattle.std.proofs.Common.{◌≡◌, ◌<◌, ◌≤◌, ◌-◌, length, drop, true, false}
use Rattle.shared_map.specs.Parts.{parts, starts_after}
use Rattle.shared_map.proofs.chunks.chunk_of.Given as goal

-- the chunk is not before the one, and before the other
abbrev pub invariant-loop-high : goal.invariant-loop-high
invariant-loop-high g l =
    (l.low < l.high) × (l.high ≤ length l.chunks) × (0 < l.low → starts_after g.K.Ord.cmp l.key (drop l.low (parts l.chunks)) ≡ false) × (starts_after g.K.Ord.cmp l.key (drop l.high (parts l.chunks)) ≡ true)

abbrev pub decreases-loop-high : goal.decreases-loop-high
decreases-loop-high g l = l.high - l.low
