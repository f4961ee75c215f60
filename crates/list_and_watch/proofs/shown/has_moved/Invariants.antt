use Rattle.std.proofs.Common.{◌≡◌, drop, map}
use Rattle.std.specs.List.{list_any}
use Rattle.object_keys.specs.Keys.{key_of}
use Rattle.indexer.specs.Shifted.{shift_of}
use Rattle.list_and_watch.specs.Recognized.{is_elsewhere}
use Rattle.list_and_watch.proofs.shown.has_moved.Given as goal

abbrev pub invariant-loop-shift : goal.invariant-loop-shift
invariant-loop-shift l =
    list_any (is_elsewhere l.uid (key_of l.key)) (map shift_of (drop l.shift-index l.shifts)) ≡ list_any (is_elsewhere l.uid (key_of l.key)) (map shift_of l.shifts)
