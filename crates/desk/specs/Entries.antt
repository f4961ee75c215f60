-- What happens to a store, as a write or a revision.
use Rattle.std.specs.Prelude.{ℕ, Option, Some, None}
use Rattle.spec_api.specs.History.{Write, Entry, write, compaction}

-- a write, or without one a compaction to the revision
abbrev pub entry_of : Option Write → ℕ → Entry
entry_of None r = compaction r
entry_of (Some w) r = write w
