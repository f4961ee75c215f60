-- What is given to a sink.
use Rattle.std.specs.Prelude.{◌≡◌, List, Option, Some, None}
use Rattle.spec_server.specs.Snapshots.{Snapshot}
use Rattle.spec_client_go.specs.Shifts.{Shift}
use Rattle.list_and_watch.specs.declared.causes.Cause.{Cause}

-- the changes that are owed are taken, with the copy after them; where none are, the sink is left as it is
abbrev pub IsGiven : {T : Type 0} → (T → List Shift → Snapshot → Cause → T → Type 0) → Option (List Shift) → Snapshot → Cause → T → T → Type 0
IsGiven takes None objects cause before after = after ≡ before
IsGiven takes (Some changes) objects cause before after = takes before changes objects cause after

-- what was so of a sink before is so of what has become of it
abbrev pub StaysSo : {T : Type 0} → (T → T → Type 0) → T → T → Type 0
StaysSo {T = T} stays before after = (first : T) → stays first before → stays first after
