use Rattle.std.proofs.Common.{◌≡◌, ◌++◌, map, drop}
use Rattle.watch_cache.specs.Changes.{change_seen}
use Rattle.watch_cache.proofs.copies.copies_above.Given as goal

-- the copies so far and the changes that are left are all
abbrev pub invariant-loop-place : goal.invariant-loop-place
invariant-loop-place l = map change_seen l.copies.items ++ drop l.place (map change_seen l.changes.items) ≡ drop l.start (map change_seen l.changes.items)
