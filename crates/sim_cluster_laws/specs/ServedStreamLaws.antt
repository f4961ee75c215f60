-- What a server answers to who asks for initial events and looks on, and what a reflector makes of it.
use Rattle.std.specs.Prelude.{◌≡◌, ◌≢◌, ◌≤◌, ◌<◌, ◌⊎◌, ℕ, List, [], ◌∷◌, ◌++◌, length, flat_map, map, Bool, true, false, Option, Some, unwrap_or, Result, Ok, Err}
use Rattle.std.specs.List.{AllByRecursion}
use Rattle.std.specs.Result.{result_map_both}
use Rattle.serde_json.specs.Data.{Data}
use Rattle.spec_api.specs.declared.frames.FrameKind.TheVariants.{Bookmark}
use Rattle.spec_api.specs.declared.kinds.Kind.{Kind}
use Rattle.spec_api.specs.declared.versions.Start.TheVariants.{After, Streamed, Present}
use Rattle.spec_api.specs.Events.{events}
use Rattle.spec_api.specs.History.{History, View, Entries, present, list}
use Rattle.spec_api.specs.Keys.{Key}
use Rattle.spec_api.specs.Reached.{IsReached}
use Rattle.spec_api.specs.Refusals.{Refusal, too_new}
use Rattle.spec_api.specs.Streams.{Line, event, initial_end, added_lines, frame_of, text_of_lines, IsStream, IsInitialStream}
use Rattle.spec_api.specs.Versions.{watched_from}
use Rattle.spec_api.specs.WatchReplies.{Initial, initial_at, opened_lines, told_lines, watch_lines}
use Rattle.spec_server.specs.Servers.{Server, IsServerAfter, initial_by}
use Rattle.spec_client_go.specs.Reflectors.{Reflector, apply_deltas, all_fed}
use Rattle.spec_laws.specs.LookLaws.{Look, AreLooks, last_history, last_stand, look_lines}
use Rattle.spec_laws.specs.SentLaws.{whole}
use Rattle.reflector.specs.Laws.{IsAt, IsAtStart, IsServedInitial, Waits, Replaces, whole_lines}

-- ---- the answer

-- what a watch is answered that asks for initial events, of a list that is not older than this revision, if one is named
abbrev pub initial_watch : ℕ → History → View → Option ℕ → Bool → Result (List Line) Refusal
initial_watch size h v least bookmarks = watch_lines size h v (record { start = Streamed least; bookmarks = bookmarks })

-- where no revision above the present one is named, it is answered: with bookmarks by an initial stream at the present revision, which is the list and
-- the bookmark that closes it; without bookmarks by the list alone
abbrev pub InitialWatchesAreAnswered : Type 0
InitialWatchesAreAnswered =
    (size : ℕ) (h : History) (v : View) (least : Option ℕ) → unwrap_or least 0 ≤ present h
    → (let listed = added_lines (list h v (present h)) in let closed = listed ++ initial_end (present h) ∷ [] in
    (initial_watch size h v least true ≡ Ok closed) × IsInitialStream h v (present h) (present h) closed × (initial_watch size h v least false ≡ Ok listed))

-- where the revision is above the present one, it is refused by these two
abbrev pub FutureStreamsAreRefused : Type 0
FutureStreamsAreRefused =
    (size : ℕ) (h : History) (v : View) (r : ℕ) (bookmarks : Bool) → present h < r → initial_watch size h v (Some r) bookmarks ≡ Err (too_new r (present h))

-- and nothing else is refused of initial events
abbrev pub OnlyTheFutureIsRefused : Type 0
OnlyTheFutureIsRefused =
    (size : ℕ) (s : Server) (h : History) (v : View) (least : Option ℕ) (f : Refusal) → IsServerAfter size s h → initial_by s v least ≡ Err f
    → (r : ℕ) × (least ≡ Some r) × (present h < r) × (f ≡ too_new r (present h))

-- the initial events that a server gives are of its list at the present revision, which is the one that they name
abbrev pub InitialsAreOfThePresent : Type 0
InitialsAreOfThePresent =
    (size : ℕ) (s : Server) (h : History) (v : View) (least : Option ℕ) (i : Initial) → IsServerAfter size s h → initial_by s v least ≡ Ok i
    → (i ≡ initial_at (present h) (list h v (present h))) × (i.revision ≡ present h)

-- ---- where the closing bookmark stands

-- in an initial stream it stands once: behind the whole list, whose revision it names, and before a stream from there
abbrev pub ClosingsFollowTheList : Type 0
ClosingsFollowTheList =
    (h : History) (v : View) (a b c : ℕ) (before later : List Line) → IsInitialStream h v a b (before ++ initial_end c ∷ later)
    → (before ≡ added_lines (list h v a)) × (c ≡ a) × IsStream h v a b later

-- so it stands before no object of the list, whatever revision it names and whatever follows it
abbrev pub NoneClosesEarly : Type 0
NoneClosesEarly =
    (h : History) (v : View) (a b c : ℕ) (ms ns : Entries) (m : Key × Data) (more : List Line) → list h v a ≡ ms ++ m ∷ ns
    → IsInitialStream h v a b (added_lines ms ++ initial_end c ∷ more) → ⊥

-- ---- looks, with bookmarks or without

-- the lines that looks are told from a, one after another
abbrev pub told_looks : Bool → ℕ → List Look → List Line
told_looks bookmarks a [] = []
told_looks bookmarks a (l ∷ ls) = told_lines bookmarks a l.given ++ told_looks bookmarks l.given.stands ls

-- it shows an object or a change
abbrev pub IsNoBookmark : Kind → Line → Type 0
IsNoBookmark k l = (frame_of k l).kind ≢ Bookmark

-- without bookmarks initial events and the looks from the present revision show the objects there, then each event after it up to where the last look
-- stands, and nothing else
abbrev pub UnmarkedStreamsShowChanges : Type 0
UnmarkedStreamsShowChanges =
    (size : ℕ) (h : History) (v : View) (least : Option ℕ) (opening : List Line) (ls : List Look) → initial_watch size h v least false ≡ Ok opening
    → AreLooks size v h (present h) ls
    → (let all = opening ++ told_looks false (present h) ls in
    (all ≡ added_lines (list h v (present h)) ++ map event (events (last_history h ls) v (present h) (last_stand (present h) ls)))
    × AllByRecursion (IsNoBookmark v.kind) all)

-- of all that is reached, a watch that begins at the present revision is shown nothing so far, as one after that revision, and stands there; its looks from
-- there show, with bookmarks, one stream from that revision of all that has happened by then, and without them its events; and one look at all that has
-- happened by then is told what a watch after that revision is answered then
abbrev pub PresentStartsGoOn : Type 0
PresentStartsGoOn =
    (size : ℕ) (h : History) (v : View) → IsReached h
    → ((bookmarks : Bool) → watch_lines size h v (record { start = Present; bookmarks = bookmarks }) ≡ Ok [])
    × ((bookmarks : Bool) → watch_lines size h v (record { start = After (present h); bookmarks = bookmarks }) ≡ Ok [])
    × ((n : ℕ) → watched_from size h v (present h) n ≡ Ok (record { events = []; stands = present h }))
    × ((ls : List Look) → AreLooks size v h (present h) ls
    → IsStream (last_history h ls) v (present h) (last_stand (present h) ls) (told_looks true (present h) ls)
    × (told_looks false (present h) ls ≡ map event (events (last_history h ls) v (present h) (last_stand (present h) ls))))
    × ((more : History) (bookmarks : Bool)
    → watch_lines size (h ++ more) v (record { start = After (present h); bookmarks = bookmarks })
    ≡ result_map_both (told_lines bookmarks (present h)) (λ f. f) (watched_from size (h ++ more) v (present h) (present (h ++ more))))

-- ---- a server's stream, taken in

-- the bytes of initial events with the bookmark that closes them, and then of the looks from their revision
abbrev pub sent_bytes : Kind → Initial → List Look → List ℕ
sent_bytes k i ls = text_of_lines k (opened_lines true i) ++ text_of_lines k (look_lines i.revision ls)

-- a server of a reached history gives initial events of a kind, and by looks from their revision, whatever happens between these, what follows
pub record IsStreamed (size : ℕ) (s : Server) (h : History) (k : Kind) (least : Option ℕ) (i : Initial) (ls : List Look) : Type 0 where
  pub server : IsServerAfter size s h
  pub reached : IsReached (last_history h ls)
  pub begins : initial_by s (whole k) least ≡ Ok i
  pub looks : AreLooks size (whole k) h i.revision ls

-- its bytes are those of lines as a reflector may be sent them: an initial stream from the present revision to where the last look stands, each line of
-- which can be read
abbrev pub SentStreamsAreServed : Type 0
SentStreamsAreServed =
    (size : ℕ) (s : Server) (h : History) (k : Kind) (least : Option ℕ) (i : Initial) (ls : List Look) → IsStreamed size s h k least i ls
    → (all : List Line) × (sent_bytes k i ls ≡ text_of_lines k all) × IsServedInitial (last_history h ls) k (present h) (last_stand i.revision ls) all

-- they, in whatever pieces, make of any map the server's list where the last look stands, and begin with the list at the revision of the initial
-- events, in the place of all that was there; the reflector then watches from where the last look stands
abbrev pub ServedStreamsAreTakenIn : Type 0
ServedStreamsAreTakenIn =
    (size : ℕ) (s : Server) (h : History) (least : Option ℕ) (i : Initial) (ls : List Look) (r : Reflector) (pieces : List (List ℕ)) → IsStreamed size s h r.kind least i ls
    → IsAtStart r → flat_map (λ p. p) pieces ≡ sent_bytes r.kind i ls
    → (let f = all_fed r pieces in let b = last_stand i.revision ls in
    Replaces (last_history h ls) r.kind (present h) b f × ((ms : Entries) → apply_deltas ms f.deltas ≡ list (last_history h ls) (whole r.kind) b) × IsAt f.after b)

-- and any part of them, in whatever pieces: until the line after those of the objects is whole, nothing; from then on the list at the revision named
abbrev pub CutServedStreamsAreTakenIn : Type 0
CutServedStreamsAreTakenIn =
    (size : ℕ) (s : Server) (h : History) (least : Option ℕ) (i : Initial) (ls : List Look) (r : Reflector) (pieces : List (List ℕ)) (more : List ℕ)
    → IsStreamed size s h r.kind least i ls → IsAtStart r → flat_map (λ p. p) pieces ++ more ≡ sent_bytes r.kind i ls
    → (let f = all_fed r pieces in let n = whole_lines (flat_map (λ p. p) pieces) in let m = length (list h (whole r.kind) (present h)) in
    ((n ≤ m) × Waits r.revision f) ⊎ ((m < n) × Replaces (last_history h ls) r.kind (present h) (last_stand i.revision ls) f))
