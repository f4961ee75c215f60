-- What a look shows.
use Rattle.std.specs.Prelude.{[], Option, Some, None}
use Rattle.std.specs.Borrow.{Bor}
use Rattle.spec_api.specs.History.{Entries}
use Rattle.spec_server.specs.Snapshots.{Snapshot}

-- a look that was not taken shows nothing
abbrev pub shown_by : Option (Bor Snapshot) → Entries
shown_by None = []
shown_by (Some s) = s.now.members
