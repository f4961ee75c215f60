-- What follows from the definitions of servers: one that follows a history answers as the history does.
use Rattle.std.specs.Prelude.{◌≡◌, ◌≤◌, ◌↔◌, ℕ, [], ◌∷◌, ◌++◌, List, Result, Ok, Err, IsOk}
use Rattle.spec_api.specs.History.{History, Write, write, View, present, list}
use Rattle.spec_laws.specs.Happening.{CanHappen}
use Rattle.spec_api.specs.Refusals.{Refusal}
use Rattle.spec_api.specs.Verbs.{accept_at, accept, write_of, history_after}
use Rattle.spec_api.specs.ObjectRequests.{Request}
use Rattle.spec_api.specs.Events.{events, applied}
use Rattle.spec_api.specs.Streams.{IsStream, applied_lines}
use Rattle.spec_api.specs.Windows.{floor, since}
use Rattle.spec_api.specs.declared.versions.At.{At}
use Rattle.spec_api.specs.declared.versions.At.TheVariants.{Present, NotOlder, Exact}
use Rattle.spec_api.specs.Versions.{Watched, list_for, watched_from, compacts}
use Rattle.spec_api.specs.WatchReplies.{lines_from, watch_lines}
use Rattle.spec_api.specs.ListQueries.{ListOptions, WatchOptions}
use Rattle.spec_api.specs.Lists.{list_outcome}
use Rattle.spec_server.specs.Servers.{list_served, watch_served, Server, opened_server, after_write, after_writing, after_entries, list_by, watch_by, compact_by, IsServerAfter}

-- a new server stands for the empty history
abbrev pub ServersOpen : Type 0
ServersOpen = (size : ℕ) → IsServerAfter size (opened_server size) []

-- after a write it stands for the history with that write
abbrev pub ServersWrite : Type 0
ServersWrite = (size : ℕ) (s : Server) (h : History) (w : Write) → IsServerAfter size s h → IsServerAfter size (after_write s w) (h ++ write w ∷ [])

-- one that takes in what has happened, entry by entry, stands for all of it
abbrev pub ServersFollow : Type 0
ServersFollow = (size : ℕ) (s : Server) (h more : History) → IsServerAfter size s h → IsServerAfter size (after_entries s more) (h ++ more)

-- both are refused, and alike, or the server stands for the history
abbrev pub HoldOrRefuse : ℕ → Result Server Refusal → Result History Refusal → Type 0
HoldOrRefuse size (Err f) (Err g) = f ≡ g
HoldOrRefuse size (Ok s) (Ok h) = IsServerAfter size s h
HoldOrRefuse size (Err f) (Ok h) = ⊥
HoldOrRefuse size (Ok s) (Err g) = ⊥

-- a compaction is refused as the history refuses it, or the server after it stands for the history after it
abbrev pub ServersCompact : Type 0
ServersCompact = (size : ℕ) (s : Server) (h : History) (r : ℕ) → IsServerAfter size s h → HoldOrRefuse size (compact_by s r) (compacts h r)

-- what is compacted has happened
abbrev pub CompactionsHappen : Type 0
CompactionsHappen = (h more : History) (r : ℕ) → compacts h r ≡ Ok more → CanHappen h → CanHappen more

-- a request is answered as after all that has happened, and the server after its write stands for the history after it
abbrev pub ServersAccept : Type 0
ServersAccept =
    (size : ℕ) (s : Server) (h : History) (q : Request) (moment : List ℕ) → IsServerAfter size s h
    → (accept_at q s.snapshot.members s.snapshot.revision moment ≡ accept q h moment)
    × IsServerAfter size (after_writing s (write_of (accept q h moment))) (history_after h (accept q h moment))

-- its lists are those of the history
abbrev pub ServersList : Type 0
ServersList = (size : ℕ) (s : Server) (h : History) (v : View) (at : At) → IsServerAfter size s h → list_by s v at ≡ list_for size h v at

-- what it gives to a watch is what the history says
abbrev pub ServersWatch : Type 0
ServersWatch = (size : ℕ) (s : Server) (h : History) (v : View) (a n : ℕ) → IsServerAfter size s h → watch_by s v a n ≡ watched_from size h v a n

-- what a watch from a is given are the first events after a, and all up to where it then stands: its lines are a stream up to there,
-- to apply it to the list at a gives the list there, and the events from there on are all that it has not been given
abbrev pub WatchesStand : Type 0
WatchesStand =
    (size : ℕ) (h : History) (v : View) (a n : ℕ) (w : Watched) → watched_from size h v a n ≡ Ok w
    → (since size h v a n ≡ Ok w.events)
    × (a ≤ w.stands)
    × (w.stands ≤ present h)
    × IsStream h v a w.stands (lines_from a w)
    × (applied (list h v a) w.events ≡ list h v w.stands)
    × (applied_lines (list h v a) (lines_from a w) ≡ list h v w.stands)
    × (events h v a (present h) ≡ w.events ++ events h v w.stands (present h))

-- whatever happens after it, the events from a are what it was given and then those from where it stands
abbrev pub WatchesGoOn : Type 0
WatchesGoOn =
    (size : ℕ) (h more : History) (v : View) (a n b : ℕ) (w : Watched) → watched_from size h v a n ≡ Ok w → w.stands ≤ b
    → events (h ++ more) v a b ≡ w.events ++ events (h ++ more) v w.stands b

-- a list at a revision is answered from the floor up to the present one, one that is not older up to the present one, and the newest always
abbrev pub ListsAreServed : Type 0
ListsAreServed =
    (size : ℕ) (h : History) (v : View) (r : ℕ)
    → (IsOk (list_for size h v (Exact r)) ↔ ((floor v.kind size h ≤ r) × (r ≤ present h)))
    × (IsOk (list_for size h v (NotOlder r)) ↔ (r ≤ present h))
    × IsOk (list_for size h v Present)

-- the page of a list that it answers is the one that the history says
abbrev pub ServersAnswerLists : Type 0
ServersAnswerLists = (size : ℕ) (s : Server) (h : History) (v : View) (o : ListOptions) → IsServerAfter size s h → list_served s v o ≡ list_outcome size h v o

-- the lines of a watch that it shows are those that the history says
abbrev pub ServersShow : Type 0
ServersShow = (size : ℕ) (s : Server) (h : History) (v : View) (o : WatchOptions) → IsServerAfter size s h → watch_served s v o ≡ watch_lines size h v o
