-- What a watch is given a part at a time, by all its events.
use Rattle.std.specs.Prelude.{◌≡◌, ℕ, zero, suc, List, length, take, nat_le, option_map, unwrap_or, slice_get, if◌then◌else◌}
use Rattle.spec_api.specs.Events.{Event, events}
use Rattle.spec_api.specs.History.{History, View, present}
use Rattle.spec_api.specs.Versions.{Watched, watched_from}
use Rattle.spec_api.specs.Windows.{floor, within}

-- the revision of the n-th of these events, and where n is 0 that from which the watch began
abbrev pub nth_revision : ℕ → ℕ → List Event → ℕ
nth_revision a zero cs = a
nth_revision a (suc n) cs = unwrap_or (option_map (λ (c : Event). c.revision) (slice_get cs n)) a

-- the first n of all events, and where the watch then stands: at the present revision where that is all of them, else at the n-th
abbrev pub first_changes : ℕ → ℕ → ℕ → List Event → Watched
first_changes now a n all = record { events = take n all; stands = if nat_le (length all) n then now else nth_revision a n all }

-- where the window answers, a watch is given the first n of all events up to the present revision (Kubernetes API Concepts, Efficient detection of changes)
abbrev pub WatchesGiveFirstChanges : Type 0
WatchesGiveFirstChanges =
    (size : ℕ) (h : History) (v : View) (a n : ℕ)
    → watched_from size h v a n ≡ within (floor v.kind size h) (present h) a (first_changes (present h) a n (events h v a (present h)))
