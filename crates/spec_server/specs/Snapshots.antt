-- What is there at one revision, and what a write makes of it.
use Rattle.std.specs.Prelude.{ℕ, ◌+◌, []}
use Rattle.spec_api.specs.History as history
use Rattle.spec_api.specs.History.{History, Write, present, after}

-- what is there, and the revision at which it is (etcd API, Revisions)
pub record Snapshot : Type 0 where
  pub members : history.Entries
  pub revision : ℕ

-- nothing is there at first
abbrev pub empty : Snapshot
empty = record { members = []; revision = 1 }

-- what is there after all that has happened
abbrev pub snapshot : History → Snapshot
snapshot h = record { members = history.entries_at h (present h); revision = present h }

-- with one more write, which takes the next revision
abbrev pub written : Snapshot → Write → Snapshot
written s w = record { members = after s.members w; revision = s.revision + 1 }
