use Rattle.std.proofs.Common.{◌≡◌, ◌≤◌, length, take}
use Rattle.std.specs.Vec.{vec_len, vec_capacity}
use Rattle.controller_runtime.specs.Watched.{AreFollowed}
use Rattle.controller_runtime.proofs.programs.Server.all_followed.Given as goal

-- each watch so far is followed, and there is room for all
abbrev pub invariant-loop-watch : goal.invariant-loop-watch
invariant-loop-watch g l =
    AreFollowed (take l.watch-index l.watches) l.made.items
    × (vec_len l.made ≡ l.watch-index)
    × (length l.watches ≤ vec_capacity l.made)
