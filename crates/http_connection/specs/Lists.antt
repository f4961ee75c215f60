-- A list that is written as its bytes are taken.
use Rattle.std.specs.Prelude.{◌≡◌, ◌⊎◌, ℕ, List, [], ◌++◌, drop, Bool, true, Option, Some, None, Result, Ok, Err}
use Rattle.std.specs.Io.KnownBytes.{Appends}
use Rattle.api.specs.declared.served.Served.TheVariants as served
use Rattle.http_connection.specs.declared.list_sending.ListSent.{ListSent}
use Rattle.http_connection.specs.declared.list_sending.ListSent.TheVariants as sent
use Rattle.http_connection.specs.declared.listing.Listing.{Listing}
use Rattle.http_connection.specs.declared.phase.ConnectionPhase.{ConnectionPhase}
use Rattle.http_connection.specs.declared.phase.ConnectionPhase.TheVariants as phase

-- what is still to be written: what is being written, and what is still to be made
abbrev pub list_left : Listing → List ℕ
list_left l = drop l.taken l.out.items ++ l.rest

-- some of what is to be written was, and this is left
abbrev pub IsListBegun : Option (List ℕ) → Option (List ℕ) → Listing → List ℕ → Type 0
IsListBegun before after l left = (put : List ℕ) × Appends before after put × (put ++ left ≡ list_left l)

-- some more of what is made was written, and the rest is left
abbrev pub ListSends : Bool → Option (List ℕ) → Option (List ℕ) → Listing → Option Listing → Type 0
ListSends no_room before after l (Some m) = IsListBegun before after l (list_left m)
ListSends no_room before after l None = (no_room ≡ true) × ((left : List ℕ) × IsListBegun before after l left)

-- all of it was written, or what is left is still to be written; where the writer has stopped, some of it was
abbrev pub ListWrites : Bool → Option (List ℕ) → Option (List ℕ) → Listing → ListSent → Type 0
ListWrites no_room before after l sent.Whole = IsListBegun before after l []
ListWrites no_room before after l (sent.Left m) = IsListBegun before after l (list_left m)
ListWrites no_room before after l sent.Failed = (no_room ≡ true) × ((left : List ℕ) × IsListBegun before after l left)

-- the same is to be written, and where nothing of it is made, nothing is still to be made
abbrev pub IsRefilled : Listing → Result Listing Listing → Type 0
IsRefilled l (Ok m) = (list_left m ≡ list_left l) × (drop m.taken m.out.items ≡ [] → m.rest ≡ [])
IsRefilled l (Err m) = list_left m ≡ list_left l

-- where a connection stands once some more of its list is written: it is closed where nothing is left, or the writer has stopped
abbrev pub ListsOn : Bool → Option (List ℕ) → Option (List ℕ) → Listing → ConnectionPhase → Type 0
ListsOn no_room before after l (phase.Listing m) = IsListBegun before after l (list_left m)
ListsOn no_room before after l (phase.Closing s) = (s ≡ served.Asked) × (IsListBegun before after l [] ⊎ ((no_room ≡ true) × ((left : List ℕ) × IsListBegun before after l left)))
ListsOn no_room before after l (phase.Reading a) = ⊥
ListsOn no_room before after l (phase.Asked a) = ⊥
ListsOn no_room before after l phase.Answering = ⊥
ListsOn no_room before after l (phase.Replying r) = ⊥
ListsOn no_room before after l (phase.Watching w) = ⊥
