-- Lists at versions, watches a part at a time, and compactions: what is answered, by what has happened.
use Rattle.std.specs.Prelude.{ℕ, ◌+◌, List, [], ◌∷◌, ◌++◌, take, length, nat_le, nat_lt, Result, Ok, Err, if◌then◌else◌}
use Rattle.std.specs.Result.{result_map_both}
use Rattle.spec_api.specs.declared.versions.At.{At}
use Rattle.spec_api.specs.declared.versions.At.TheVariants.{Present, NotOlder, Exact}
use Rattle.spec_api.specs.State.History.{History, compaction, View, Entries, present, list}
use Rattle.spec_api.specs.Objects.Refusals.{Refusal, too_new}
use Rattle.spec_api.specs.State.Events.{Event}
use Rattle.spec_api.specs.State.Windows.{since, list_within}

-- ---- lists

-- a list, and the revision at which it is
pub record Listed : Type 0 where
  pub revision : ℕ
  pub members : Entries

abbrev pub listed_as : ℕ → Entries → Listed
listed_as r ms = record { revision = r; members = ms }

-- what is answered at revision r, or the refusal of one above the present (Kubernetes API Concepts, Unavailable resource versions)
abbrev pub once_present : {X : Type 0} → ℕ → ℕ → X → Result X Refusal
once_present now r x = if nat_lt now r then Err (too_new r now) else Ok x

-- the list that is asked, by the present revision, the list there, and the one at each revision
abbrev pub listed_at : ℕ → Entries → (ℕ → Result Entries Refusal) → At → Result Listed Refusal
listed_at now ms earlier Present = Ok (listed_as now ms)
listed_at now ms earlier (NotOlder r) = once_present now r (listed_as now ms)
listed_at now ms earlier (Exact r) = result_map_both (listed_as r) (λ f. f) (earlier r)

-- the list of the view, from a window of this size
abbrev pub list_for : ℕ → History → View → At → Result Listed Refusal
list_for size h v at = listed_at (present h) (list h v (present h)) (list_within size h v) at

-- ---- watches

-- what a watch is given at a time: events, and the revision up to which they are all of its events
pub record Watched : Type 0 where
  pub events : List Event
  pub stands : ℕ

-- the revision of the last of these events, a if there is none
abbrev pub last_change : ℕ → List Event → ℕ
last_change a [] = a
last_change a (c ∷ cs) = last_change c.revision cs

-- the first n of these events after a: if there are no more, the watch then stands at the present revision, else at that of the last event given
abbrev pub watched : ℕ → ℕ → ℕ → List Event → Watched
watched now a n cs = record { events = take n cs; stands = if nat_le (length cs) n then now else last_change a (take n cs) }

-- the first n events of the view after a, from a window of this size; one more is asked for, which tells whether there is more
-- (Kubernetes API Concepts, Efficient detection of changes)
abbrev pub watched_from : ℕ → History → View → ℕ → ℕ → Result Watched Refusal
watched_from size h v a n = result_map_both (watched (present h) a n) (λ f. f) (since size h v a (n + 1))

-- ---- compactions

-- what happened up to r is compacted; r may not be above the present revision (etcd API, Compact)
abbrev pub compacts : History → ℕ → Result History Refusal
compacts h r = once_present (present h) r (h ++ compaction r ∷ [])
