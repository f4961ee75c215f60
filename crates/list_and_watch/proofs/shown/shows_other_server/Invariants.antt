use Rattle.std.proofs.Common.{◌≡◌, IfSome, drop, map}
use Rattle.std.specs.List.{list_any}
use Rattle.indexer.specs.Shifted.{shift_of}
use Rattle.list_and_watch.specs.Placed.{AreAllPlaced}
use Rattle.list_and_watch.specs.Recognized.{shows_other_in, shows_other_server}
use Rattle.list_and_watch.proofs.shown.shows_other_server.Given as goal

abbrev pub invariant-loop-shift : goal.invariant-loop-shift
invariant-loop-shift l =
    (list_any (shows_other_in (map shift_of l.shifts)) (map shift_of (drop l.shift-index l.shifts)) ≡ shows_other_server (map shift_of l.shifts))
    × IfSome l.uids (λ uids. AreAllPlaced uids (map shift_of l.shifts))
