-- What follows from the definition of snapshots.
use Rattle.std.specs.Prelude.{◌≡◌, ◌++◌, ℕ, [], ◌∷◌}
use Rattle.spec_api.specs.History.{History, Write, write, compaction}
use Rattle.spec_server.specs.Snapshots.{empty, snapshot, written}

-- nothing is there at first, each write makes the next snapshot of the one before, and a compaction changes none
abbrev pub SnapshotsFollow : Type 0
SnapshotsFollow =
    (snapshot [] ≡ empty)
    × ((h : History) (w : Write) → snapshot (h ++ write w ∷ []) ≡ written (snapshot h) w)
    × ((h : History) (r : ℕ) → snapshot (h ++ compaction r ∷ []) ≡ snapshot h)
