-- What a watch is answered that shows what has happened so far: its lines up to the present revision (Kubernetes API Concepts, Efficient detection of changes).
use Rattle.std.specs.Prelude.{ℕ, List, [], ◌∷◌, ◌++◌, nat_lt, map, Bool, Option, Some, None, Result, Ok, if◌then◌else◌}
use Rattle.std.specs.Result.{result_map_both}
use Rattle.spec_api.specs.State.History as history
use Rattle.spec_api.specs.State.History.{History, View, present, list}
use Rattle.spec_api.specs.State.Events.{Event}
use Rattle.spec_api.specs.declared.frames.ChangeKind.TheVariants as change
use Rattle.spec_api.specs.declared.versions.Start.{Start}
use Rattle.spec_api.specs.declared.versions.Start.TheVariants.{After, Listed, Streamed, Present}
use Rattle.spec_api.specs.Requests.ListQueries.{WatchOptions}
use Rattle.spec_api.specs.Objects.Refusals.{Refusal}
use Rattle.spec_api.specs.Watching.Streams.{Line, event, bookmark, initial_end, added_lines}
use Rattle.spec_api.specs.Answers.Versions.{Watched, last_change, once_present, watched_from}

-- ---- initial events

-- what is there as events, and the revision at which it is (Kubernetes API Concepts, Streaming lists)
pub record Initial : Type 0 where
  pub events : List Event
  pub revision : ℕ

-- each object as if it had been added just now, so that each names the revision of them all and not its own: nobody goes on from the midst
abbrev pub added_events : ℕ → history.Entries → List Event
added_events r ms = map (λ m. record { kind = change.Added; revision = r; key = m.0; object = m.1 }) ms

abbrev pub initial_at : ℕ → history.Entries → Initial
initial_at now ms = record { events = added_events now ms; revision = now }

-- the initial events at the present revision, which may not be older than the one that is named, if one is
abbrev pub initial_from : ℕ → history.Entries → Option ℕ → Result Initial Refusal
initial_from now ms None = Ok (initial_at now ms)
initial_from now ms (Some r) = once_present now r (initial_at now ms)

-- the initial events of the view after all that has happened
abbrev pub initial_for : History → View → Option ℕ → Result Initial Refusal
initial_for h v least = initial_from (present h) (list h v (present h)) least

-- ---- lines

-- the bookmark that closes the initial events, where bookmarks are asked for
abbrev pub closing_lines : Bool → ℕ → List Line
closing_lines bookmarks a = if bookmarks then initial_end a ∷ [] else []

-- the lines with which a stream of initial events begins: what is there at a, then the bookmark that closes it
abbrev pub opening_lines : Bool → ℕ → history.Entries → List Line
opening_lines bookmarks a ms = added_lines ms ++ closing_lines bookmarks a

-- the same, of the events
abbrev pub opened_lines : Bool → Initial → List Line
opened_lines bookmarks i = map event i.events ++ closing_lines bookmarks i.revision

-- the lines that show this to a watch from a: the events, and a bookmark where it stands above the last one (Kubernetes API Concepts, Watch bookmarks)
abbrev pub lines_from : ℕ → Watched → List Line
lines_from a w = map event w.events ++ (if nat_lt (last_change a w.events) w.stands then bookmark w.stands ∷ [] else [])

-- the lines of what a watch from a is given, with bookmarks or without
abbrev pub told_lines : Bool → ℕ → Watched → List Line
told_lines bookmarks a w = if bookmarks then lines_from a w else map event w.events

-- a watch's lines, by the present revision, by what is there, by what a watch from each revision is given, and by how it begins
abbrev pub lines_by : ℕ → history.Entries → (ℕ → Result Watched Refusal) → Bool → Start → Result (List Line) Refusal
lines_by now ms watched bookmarks Listed = Ok (added_lines ms)
lines_by now ms watched bookmarks (Streamed None) = Ok (opening_lines bookmarks now ms)
lines_by now ms watched bookmarks (Streamed (Some r)) = once_present now r (opening_lines bookmarks now ms)
lines_by now ms watched bookmarks (After a) = result_map_both (told_lines bookmarks a) (λ f. f) (watched a)
lines_by now ms watched bookmarks Present = result_map_both (told_lines bookmarks now) (λ f. f) (watched now)

-- a watch's lines after all that has happened, with windows of this size: a history has fewer events than its revision
abbrev pub watch_lines : ℕ → History → View → WatchOptions → Result (List Line) Refusal
watch_lines size h v o = lines_by (present h) (list h v (present h)) (λ a. watched_from size h v a (present h)) o.bookmarks o.start
