-- A server: what is there, and a window of each kind, and what it answers by these in the place of a history.
use Rattle.std.specs.Prelude.{◌≡◌, ℕ, ◌+◌, ◌==◌, List, [], ◌∷◌, Option, Some, None, Result, if◌then◌else◌}
use Rattle.std.specs.Result.{result_map_both}
use Rattle.spec_api.specs.declared.kinds.Kind.{Kind}
use Rattle.spec_api.specs.declared.versions.At.{At}
use Rattle.spec_api.specs.Kinds.{rank}
use Rattle.spec_api.specs.History.{History, Write, write, compaction, View, viewed, found}
use Rattle.spec_api.specs.ListQueries.{ListOptions, WatchOptions}
use Rattle.spec_api.specs.Refusals.{Refusal}
use Rattle.spec_api.specs.Verbs.{Outcome}
use Rattle.spec_api.specs.Versions.{Listed, Watched, once_present, listed_at, watched}
use Rattle.spec_api.specs.Lists.{list_answer}
use Rattle.spec_api.specs.Streams.{Line}
use Rattle.spec_api.specs.WatchReplies.{Initial, initial_from, lines_by}
use Rattle.spec_api.specs.Windows.{Change}
use Rattle.spec_server.specs.Snapshots.{Snapshot, empty, snapshot, written}
use Rattle.spec_server.specs.Recorded.{Window, opened, recorded, compacted_to, recorded_since, recorded_list, IsWindowAfter}

-- what is there, and the window of the last changes of each kind
pub record Server : Type 0 where
  pub snapshot : Snapshot
  pub windows : Kind → Window

-- nothing is there at first, and each window has this size
abbrev pub opened_server : ℕ → Server
opened_server size = record { snapshot = empty; windows = λ k. opened k size }

-- the window of a kind
abbrev pub window_of : Kind → Server → Window
window_of k s = s.windows k

-- with another window of the kind
abbrev pub with_window : Kind → Window → Server → Server
with_window k w s = record s { windows = λ j. if rank j == rank k then w else s.windows j }

-- ---- what happens

-- the change of the next write
abbrev pub change_at : Snapshot → Write → Change
change_at s w = record { revision = s.revision + 1; key = w.key; old = found w.key s.members; new = w.put }

-- a write changes what is there, and the window of its kind records it
abbrev pub after_write : Server → Write → Server
after_write s w = with_window w.key.kind (recorded (window_of w.key.kind s) (change_at s.snapshot w)) (record s { snapshot = written s.snapshot w })

-- after an answer's write, if it has one
abbrev pub after_writing : Server → Option Write → Server
after_writing s None = s
after_writing s (Some w) = after_write s w

-- a compaction to r moves the floor of each window
abbrev pub after_compaction : Server → ℕ → Server
after_compaction s r = record s { windows = λ k. compacted_to (s.windows k) r }

-- after entries, one after another
abbrev pub after_entries : Server → History → Server
after_entries s [] = s
after_entries s (write w ∷ h) = after_entries (after_write s w) h
after_entries s (compaction r ∷ h) = after_entries (after_compaction s r) h

-- ---- what it answers

-- the list of the view that is asked
abbrev pub list_by : Server → View → At → Result Listed Refusal
list_by s v at =
    let listed = viewed v s.snapshot.members in
    listed_at s.snapshot.revision listed (recorded_list (window_of v.kind s) s.snapshot.revision listed v) at

-- the first n events of the view after a, and where the watch then stands
abbrev pub watch_by : Server → View → ℕ → ℕ → Result Watched Refusal
watch_by s v a n = result_map_both (watched s.snapshot.revision a n) (λ f. f) (recorded_since (window_of v.kind s) s.snapshot.revision v a (n + 1))

-- the page of a list that is asked
abbrev pub list_served : Server → View → ListOptions → Outcome
list_served s v o = list_answer v o (list_by s v o.at)

-- the initial events of a view, and the revision at which they are
abbrev pub initial_by : Server → View → Option ℕ → Result Initial Refusal
initial_by s v least = initial_from s.snapshot.revision (viewed v s.snapshot.members) least

-- the lines of a watch up to the present revision
abbrev pub watch_served : Server → View → WatchOptions → Result (List Line) Refusal
watch_served s v o = lines_by s.snapshot.revision (viewed v s.snapshot.members) (λ a. watch_by s v a s.snapshot.revision) o.bookmarks o.start

-- the server after a compaction to r, which may not be above the present revision
abbrev pub compact_by : Server → ℕ → Result Server Refusal
compact_by s r = once_present s.snapshot.revision r (after_compaction s r)

-- ---- how it goes with a history

-- a window of the kind and of this size that follows the history
abbrev pub IsWindow : ℕ → Kind → History → Window → Type 0
IsWindow size k h w = (w.kind ≡ k) × (w.size ≡ size) × IsWindowAfter w h

-- what is there is what the history left there, and each window is of its kind and follows the history
abbrev pub IsServerAfter : ℕ → Server → History → Type 0
IsServerAfter size s h = (s.snapshot ≡ snapshot h) × ((k : Kind) → IsWindow size k h (window_of k s))
