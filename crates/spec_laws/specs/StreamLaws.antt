-- What follows for watches that begin with initial events.
use Rattle.std.specs.Prelude.{◌≡◌, ◌≤◌, ℕ, List, [], ◌∷◌, ◌++◌, Bool, true, false, Option, None, unwrap_or, Ok, IsOk, ◌↔◌}
use Rattle.serde_json.specs.Data.{Data}
use Rattle.spec_api.specs.Keys.{Key}
use Rattle.spec_api.specs.declared.kinds.Kind.{Kind}
use Rattle.spec_api.specs.History.{History, View, Entries, present, list}
use Rattle.spec_api.specs.Streams.{Line, initial, initial_end, added_lines, text_of_lines, IsInitialStream}
use Rattle.spec_api.specs.Windows.{floor}
use Rattle.spec_api.specs.declared.versions.Start.TheVariants.{Listed, Streamed, Present}
use Rattle.spec_laws.specs.LookLaws.{Look, AreLooks, last_history, last_stand, look_lines}
use Rattle.spec_api.specs.Versions.{Watched}
use Rattle.spec_server.specs.Servers.{Server, IsServerAfter, initial_by, watch_by}
use Rattle.spec_api.specs.WatchReplies.{Initial, initial_at, initial_for, lines_from, opening_lines, opened_lines, watch_lines}

-- a server that stands for what has happened gives the initial events that it says
abbrev pub ServersBegin : Type 0
ServersBegin = (size : ℕ) (s : Server) (h : History) (v : View) (least : Option ℕ) → IsServerAfter size s h → initial_by s v least ≡ initial_for h v least

-- the text of the initial events is that of the list's lines
abbrev pub OpeningsAreLists : Type 0
OpeningsAreLists = (k : Kind) (bookmarks : Bool) (a : ℕ) (ms : Entries) → text_of_lines k (opened_lines bookmarks (initial_at a ms)) ≡ text_of_lines k (opening_lines bookmarks a ms)

-- the initial events and the bookmark that closes them, then the lines of the looks from their revision, whatever happens between these, are an
-- initial stream of all that has happened, at the revision where the list was made
abbrev pub InitialStreamsAreServed : Type 0
InitialStreamsAreServed =
    (size : ℕ) (h : History) (v : View) (ls : List Look) → AreLooks size v h (present h) ls
    → (present h ≤ last_stand (present h) ls)
    × IsInitialStream (last_history h ls) v (present h) (last_stand (present h) ls) (opening_lines true (present h) (list h v (present h)) ++ look_lines (present h) ls)

-- the same as bytes, from a server: the text of the initial events that it gives, with the bookmark that closes them, then that of the looks from
-- their revision are those of an initial stream
abbrev pub InitialStreamsAreSent : Type 0
InitialStreamsAreSent =
    (size : ℕ) (s : Server) (h : History) (v : View) (least : Option ℕ) (i : Initial) (ls : List Look) → IsServerAfter size s h → initial_by s v least ≡ Ok i
    → AreLooks size v h i.revision ls
    → (all : List Line)
    × (text_of_lines v.kind (opened_lines true i) ++ text_of_lines v.kind (look_lines i.revision ls) ≡ text_of_lines v.kind all)
    × IsInitialStream (last_history h ls) v i.revision (last_stand i.revision ls) all

-- and after one look at the server as it is then
abbrev pub FirstLooksAreSent : Type 0
FirstLooksAreSent =
    (size : ℕ) (s t : Server) (h more : History) (v : View) (least : Option ℕ) (n : ℕ) (i : Initial) (w : Watched) → IsServerAfter size s h → IsServerAfter size t (h ++ more)
    → initial_by s v least ≡ Ok i → watch_by t v i.revision n ≡ Ok w
    → (all : List Line)
    × (text_of_lines v.kind (opened_lines true i) ++ text_of_lines v.kind (lines_from i.revision w) ≡ text_of_lines v.kind all)
    × IsInitialStream (h ++ more) v i.revision w.stands all

-- initial events are given where no revision above the present one is named, also below the floor
abbrev pub InitialsAreServed : Type 0
InitialsAreServed = (h : History) (v : View) (least : Option ℕ) → IsOk (initial_for h v least) ↔ (unwrap_or least 0 ≤ present h)

-- a watch from the present revision shows nothing so far
abbrev pub PresentStartsAreEmpty : Type 0
PresentStartsAreEmpty =
    (size : ℕ) (h : History) (v : View) (bookmarks : Bool) → floor v.kind size h ≤ present h
    → watch_lines size h v (record { start = Present; bookmarks = bookmarks }) ≡ Ok []

-- without bookmarks a stream of initial events begins as a watch from no revision does
abbrev pub UnclosedStreamsAreLists : Type 0
UnclosedStreamsAreLists =
    (size : ℕ) (h : History) (v : View)
    → watch_lines size h v (record { start = Streamed None; bookmarks = false }) ≡ watch_lines size h v (record { start = Listed; bookmarks = false })

-- no initial stream has the bookmark that closes it before the last object
abbrev pub EarlyClosingsAreNone : Type 0
EarlyClosingsAreNone =
    (h : History) (v : View) (a b c : ℕ) (ms : Entries) (n : Key) (d : Data) (more : List Line) → list h v a ≡ ms ++ (n, d) ∷ []
    → IsInitialStream h v a b (added_lines ms ++ initial_end c ∷ initial n d ∷ more) → ⊥
