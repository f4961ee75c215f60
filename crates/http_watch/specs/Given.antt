-- What is given, as the definitions say it.
use Rattle.std.specs.Prelude.{ℕ, Option, Some, None, Result, Ok, Err}
use Rattle.spec_api.specs.History.{Entries}
use Rattle.spec_api.specs.Refusals.{Refusal}
use Rattle.spec_api.specs.Versions.{Listed, listed_as, once_present}
use Rattle.object_keys.specs.Faults.{refusal_of}
use Rattle.object_keys.specs.declared.fault.Fault.{Fault}
use Rattle.http_watch.specs.declared.begun.Begun.{Begun}

-- what is given, or why it is refused, is so
abbrev pub Gives : {X Y : Type 0} → (Y → X) → (Result X Refusal → Type 0) → Result Y Fault → Type 0
Gives seen is_so (Ok y) = is_so (Ok (seen y))
Gives seen is_so (Err e) = is_so (Err (refusal_of e))

-- what a watch begins with, as a list
abbrev pub begun_as : Begun → Listed
begun_as b = listed_as b.revision b.objects

-- what is there, or why it is refused, is so
abbrev pub GivesBegun : (Result Listed Refusal → Type 0) → Result Begun Fault → Type 0
GivesBegun is_so r = Gives begun_as is_so r

-- what is there at the present revision, which may not be older than the one that is named, if one is
abbrev pub there_from : ℕ → Entries → Option ℕ → Result Listed Refusal
there_from now ms None = Ok (listed_as now ms)
there_from now ms (Some r) = once_present now r (listed_as now ms)
