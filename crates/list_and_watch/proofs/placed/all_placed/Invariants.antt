use Rattle.std.proofs.Common.{◌≡◌, ◌||◌, ℕ, List, drop, map}
use Rattle.std.specs.List.{list_any}
use Rattle.indexer.specs.Shifted.{shift_of}
use Rattle.list_and_watch.specs.Placed.{is_placed, places}
use Rattle.list_and_watch.proofs.placed.all_placed.Given as goal

-- what the set has and what is still to come are all
abbrev pub invariant-loop-shift : goal.invariant-loop-shift
invariant-loop-shift l = (u : List ℕ) → (is_placed l.uids u || list_any (places u) (map shift_of (drop l.shift-index l.shifts))) ≡ list_any (places u) (map shift_of l.shifts)
