-- What one more entry does to the snapshot of what has happened.
use Rattle.std.proofs.Common.{◌≡◌, ℕ, ◌+◌, ◌-◌, [], ◌∷◌, ◌++◌, length, take, refl, ◌∙◌, append-nil}
use Rattle.spec_api.specs.History.{History, Write, write, compaction, writes, after_all}
use Rattle.spec_laws.specs.SnapshotLaws.{SnapshotsFollow}
use Rattle.spec_server.specs.Snapshots.{snapshot, written}
use Rattle.spec_laws.proofs.Limits.{members-write}
use Rattle.spec_laws.proofs.Past.{writes-append}
use Rattle.spec_laws.proofs.VerbLaws.{present-write}

pub snapshot-write : (h : History) (w : Write) → snapshot (h ++ write w ∷ []) ≡ written (snapshot h) w
snapshot-write h w = λ i. record { members = members-write h w i; revision = present-write h w i }

snapshot-writes : (g h : History) → writes g ≡ writes h → snapshot g ≡ snapshot h
snapshot-writes g h same = λ i. record { members = after_all [] (take (length (same i) + 1 - 1) (same i)); revision = length (same i) + 1 }

pub snapshot-compaction : (h : History) (r : ℕ) → snapshot (h ++ compaction r ∷ []) ≡ snapshot h
snapshot-compaction h r = snapshot-writes (h ++ compaction r ∷ []) h (writes-append h (compaction r ∷ []) ∙ append-nil (writes h))

pub followed : SnapshotsFollow
followed = (refl, snapshot-write, snapshot-compaction)
