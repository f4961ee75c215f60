-- A window as a server records it, and what it answers by the changes that it has.
use Rattle.std.specs.Prelude.{◌≡◌, ℕ, List, [], ◌∷◌, ◌++◌, take, filter, flat_map, max, nat_lt, Result}
use Rattle.spec_api.specs.declared.kinds.Kind.{Kind}
use Rattle.spec_api.specs.History.{History, View, Entries, put_or_remove, seen}
use Rattle.spec_api.specs.Refusals.{Refusal}
use Rattle.spec_api.specs.Events.{Event, event_of}
use Rattle.spec_api.specs.Windows.{Change, last_n, all_but, last_revision, changes_of, floor, within}

-- the last changes of a kind, as many as there is room for, and the revision from which they answer
pub record Window : Type 0 where
  pub kind : Kind
  pub size : ℕ
  pub kept : List Change
  pub floor : ℕ

-- the changes with a revision above a
abbrev pub above : ℕ → List Change → List Change
above a ks = filter (λ k. nat_lt a k.revision) ks

-- the event, if there is one, that a view sees of a recorded change
abbrev pub event_recorded : View → Change → List Event
event_recorded v k = event_of k.revision k.key (seen v k.key k.old) (seen v k.key k.new)

abbrev pub events_recorded : View → List Change → List Event
events_recorded v ks = flat_map (event_recorded v) ks

-- what the view showed before these changes, by what it shows after them: the newest is undone first
abbrev pub undone : View → Entries → List Change → Entries
undone v ms [] = ms
undone v ms (k ∷ ks) = put_or_remove (undone v ms ks) k.key (seen v k.key k.old)

-- the first n events of the view after a, where `now` is present
abbrev pub recorded_since : Window → ℕ → View → ℕ → ℕ → Result (List Event) Refusal
recorded_since s now v a n = within s.floor now a (take n (events_recorded v (above a s.kept)))

-- the list of the view at r, where `now` is present and has this list
abbrev pub recorded_list : Window → ℕ → Entries → View → ℕ → Result Entries Refusal
recorded_list s now listed v r = within s.floor now r (undone v listed (above r s.kept))

-- ---- how it goes with a history

abbrev pub opened : Kind → ℕ → Window
opened kind size = record { kind = kind; size = size; kept = []; floor = 1 }

-- with one more change; where there is no room for the oldest one, it is dropped, and the floor is at least its revision
abbrev pub recorded : Window → Change → Window
recorded s k = record { kind = s.kind; size = s.size; kept = last_n s.size (s.kept ++ k ∷ []); floor = max s.floor (last_revision 1 (all_but s.size (s.kept ++ k ∷ []))) }

-- after a compaction to r the floor is at least r
abbrev pub compacted_to : Window → ℕ → Window
compacted_to s r = record { kind = s.kind; size = s.size; kept = s.kept; floor = max s.floor r }

-- the window has the last changes of its kind in the history, and the floor that goes with them
abbrev pub IsWindowAfter : Window → History → Type 0
IsWindowAfter s h = (s.kept ≡ last_n s.size (changes_of s.kind h)) × (s.floor ≡ floor s.kind s.size h)
