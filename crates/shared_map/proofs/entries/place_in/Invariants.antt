use Rattle.std.proofs.Common.{◌≤◌, ◌-◌, length, take, drop, false, Greater}
use Rattle.shared_map.specs.Parts.{seen, AllAre, BeginsAt}
use Rattle.shared_map.proofs.entries.place_in.Given as goal

-- the key is above all before the one, and not at the other or after it
abbrev pub invariant-loop-low : goal.invariant-loop-low
invariant-loop-low g l =
    (l.low ≤ l.high) × (l.high ≤ length l.entries) × AllAre g.K.Ord.cmp Greater l.key (take l.low (seen l.entries)) × BeginsAt g.K.Ord.cmp l.key false (drop l.high (seen l.entries))

abbrev pub decreases-loop-low : goal.decreases-loop-low
decreases-loop-low g l = l.high - l.low
