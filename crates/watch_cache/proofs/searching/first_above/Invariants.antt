use Rattle.std.proofs.Common.{◌≡◌, ◌≤◌, ◌-◌, [], map, take, drop, length}
use Rattle.spec_server.specs.Recorded.{above}
use Rattle.watch_cache.specs.Changes.{change_seen}
use Rattle.watch_cache.proofs.searching.first_above.Given as goal

-- no change before `low` is above the revision, and each from `high` on is
abbrev pub invariant-loop-low : goal.invariant-loop-low
invariant-loop-low l = record {
  order : l.low ≤ l.high;
  bound : l.high ≤ length l.changes.items;
  before : above l.after (take l.low (map change_seen l.changes.items)) ≡ [];
  from : above l.after (drop l.high (map change_seen l.changes.items)) ≡ drop l.high (map change_seen l.changes.items);
}

abbrev pub decreases-loop-low : goal.decreases-loop-low
decreases-loop-low l = l.high - l.low
