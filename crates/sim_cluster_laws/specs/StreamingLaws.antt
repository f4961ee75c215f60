-- What bytes, whatever they say, make of a reflector that asks for initial events.
use Rattle.std.specs.Prelude.{◌≡◌, ◌≤◌, ◌⊎◌, ℕ, List, [], ◌∷◌, ◌++◌, flat_map, true, false, is_some, Some, None}
use Rattle.std.specs.List.{AllByRecursion}
use Rattle.serde_json.specs.Data.{Data}
use Rattle.spec_api.specs.declared.kinds.Kind.{Kind}
use Rattle.spec_api.specs.declared.frames.FrameKind.{FrameKind}
use Rattle.spec_api.specs.declared.frames.FrameKind.TheVariants.{Added, Modified, Deleted, Bookmark, Error}
use Rattle.spec_api.specs.Frames.{Frame}
use Rattle.spec_api.specs.History.{Entries, put_or_remove}
use Rattle.spec_client_go.specs.declared.reflectors.Ask.TheVariants as ask
use Rattle.spec_client_go.specs.declared.reflectors.End.{End}
use Rattle.spec_client_go.specs.declared.reflectors.Phase.TheVariants.{Listing, Streaming, Watching}
use Rattle.spec_client_go.specs.ReadFrames.{reading}
use Rattle.spec_client_go.specs.Reflectors as reflectors
use Rattle.spec_client_go.specs.Reflectors.{Shown, shown, Listed, list_of, with_list, Delta, replace, name_in, put_in, is_of, revision, run, is_closing, Initial, none_yet, objects_of, Reflector, Fed, asks, fed, all_fed}
use Rattle.reflector.specs.Laws.{IsAt, IsAtStart}

-- ---- before the closing bookmark

-- a frame that does not say that the initial events end with it
abbrev pub IsNoClosing : Frame → Type 0
IsNoClosing e = e.kind ≡ Bookmark → is_closing e.object ≡ false

-- nothing was given, and the revision stays; it goes on with the initial events, or after an end drops them and asks for a stream
pub record Stays (s : Reflector) (f : Fed) : Type 0 where
  pub deltas : f.deltas ≡ []
  pub revision : f.after.revision ≡ s.revision
  pub goes_on : f.ended ≡ None → f.after.phase ≡ Streaming
  pub starts : (e : End) → f.ended ≡ Some e → s.is_streaming ≡ true → IsAtStart f.after × (asks f.after ≡ ask.Stream)

-- as long as no frame closes the initial events, whatever the bytes are, nothing is given
abbrev pub NothingIsGivenBefore : Type 0
NothingIsGivenBefore =
    (s : Reflector) (piece : List ℕ) → s.phase ≡ Streaming → AllByRecursion IsNoClosing (reading (s.buffered ++ piece)).events → Stays s (fed s piece)

-- and so of pieces one after another, from the start of a stream on
abbrev pub NothingIsGivenOfPieces : Type 0
NothingIsGivenOfPieces =
    (s : Reflector) (pieces : List (List ℕ)) → IsAtStart s → AllByRecursion IsNoClosing (reading (flat_map (λ p. p) pieces)).events → Stays s (all_fed s pieces)

-- ---- the closing bookmark

-- a bookmark of the kind that says that the initial events end with it, at this revision
pub record IsClosing (k : Kind) (r : ℕ) (e : Frame) : Type 0 where
  pub is_bookmark : e.kind ≡ Bookmark
  pub ends : is_closing e.object ≡ true
  pub kind : is_of k e.object ≡ true
  pub revision : reflectors.revision e.object ≡ Some r

-- a frame that makes one map of another: it shows an object of the kind, at a revision up to r, that is put or removed, or is another bookmark of the kind
abbrev pub IsPlayedBy : FrameKind → Kind → ℕ → Entries → Data → Entries → Type 0
IsPlayedBy Added k r ms d next = (s : Shown) × (shown k d ≡ Some s) × (s.revision ≤ r) × (next ≡ put_in ms s.object)
IsPlayedBy Modified k r ms d next = (s : Shown) × (shown k d ≡ Some s) × (s.revision ≤ r) × (next ≡ put_in ms s.object)
IsPlayedBy Deleted k r ms d next = (s : Shown) × (shown k d ≡ Some s) × (s.revision ≤ r) × (next ≡ put_or_remove ms (name_in s.object) None)
IsPlayedBy Bookmark k r ms d next = (is_closing d ≡ false) × (is_of k d ≡ true) × (is_some (revision d) ≡ true) × (next ≡ ms)
IsPlayedBy Error k r ms d next = ⊥

-- frames one after another that make one map of another, none of them above r
abbrev pub ArePlayed : Kind → ℕ → Entries → List Frame → Entries → Type 0
ArePlayed k r ms [] all = ms ≡ all
ArePlayed k r ms (e ∷ es) all = (next : Entries) × IsPlayedBy e.kind k r ms e.object next × ArePlayed k r next es all

-- a delta for one object or none
abbrev pub IsSmall : Delta → Type 0
IsSmall (replace r os) = ⊥
IsSmall d = Unit {0}

-- the first of what was given is the whole map that the frames before a closing bookmark make of these initial events, at its revision, which none of
-- them is above; then come the deltas of the frames after it, as of a watch from there
pub record Opens (k : Kind) (i : Initial) (es : List Frame) (f : Fed) : Type 0 where
  pub before : List Frame
  pub closing : Frame
  pub later : List Frame
  pub frames : es ≡ before ++ closing ∷ later
  pub revision : ℕ
  pub closes : IsClosing k revision closing
  pub highest : i.highest ≤ revision
  pub members : Entries
  pub plays : ArePlayed k revision i.members before members
  pub deltas : f.deltas ≡ replace revision (objects_of members) ∷ (run k revision later).deltas
  pub once : AllByRecursion IsSmall (run k revision later).deltas
  pub names : f.after.revision ≡ (run k revision later).revision

-- whatever bytes come, nothing is given, or the whole map by a closing bookmark
abbrev pub GivenByTheClosing : Type 0
GivenByTheClosing =
    (s : Reflector) (piece : List ℕ) → s.phase ≡ Streaming → Stays s (fed s piece) ⊎ Opens s.kind s.initial (reading (s.buffered ++ piece)).events (fed s piece)

-- where frames that can be played are followed by a closing bookmark that none of them is above, the whole map that they make is given
abbrev pub ClosingsAreGiven : Type 0
ClosingsAreGiven =
    (s : Reflector) (piece : List ℕ) (before later : List Frame) (e : Frame) (r : ℕ) (ms : Entries) → s.phase ≡ Streaming
    → (reading (s.buffered ++ piece)).events ≡ before ++ e ∷ later → ArePlayed s.kind r s.initial.members before ms → IsClosing s.kind r e → s.initial.highest ≤ r
    → (fed s piece).deltas ≡ replace r (objects_of ms) ∷ (run s.kind r later).deltas

-- from the start of a stream on, in whatever pieces they come, the whole map is what all frames before it make
abbrev pub GivenOfAllFrames : Type 0
GivenOfAllFrames =
    (s : Reflector) (pieces : List (List ℕ)) → IsAtStart s
    → Stays s (all_fed s pieces) ⊎ Opens s.kind none_yet (reading (flat_map (λ p. p) pieces)).events (all_fed s pieces)

-- ---- what is asked for

-- what comes to a reflector: a body that is taken in as a list, bytes of a watch, or that it was cut, expired or refused
pub data Step : Type 0 where
  list : List ℕ → Step
  bytes : List ℕ → Step
  cut : Step
  expired : Step
  refused : Step

abbrev pub after_step : Step → Reflector → Reflector
after_step (list body) s = with_list (list_of s.kind body) s
after_step (bytes piece) s = (fed s piece).after
after_step cut s = reflectors.cut s
after_step expired s = reflectors.expired s
after_step refused s = reflectors.refused s

abbrev pub after_steps : List Step → Reflector → Reflector
after_steps [] s = s
after_steps (t ∷ ts) s = after_steps ts (after_step t s)

-- it is no list that can be read
abbrev pub IsNoList : Kind → Step → Type 0
IsNoList k (list body) = list_of k body ≡ None
IsNoList k t = Unit {0}

-- after a refusal, whatever comes but a list, the reflector asks for a list, at the revision that it had; a list that it takes in then leads it to watch from
-- the list's revision
abbrev pub OnlyListsEndRefusals : Type 0
OnlyListsEndRefusals =
    (s : Reflector) (ts : List Step) → AllByRecursion (IsNoList s.kind) ts
    → (let t = after_steps ts (reflectors.refused s) in
    (t.phase ≡ Listing) × (asks t ≡ ask.List) × (t.revision ≡ s.revision)
    × ((body : List ℕ) (l : Listed) → list_of s.kind body ≡ Some l → IsAt (after_step (list body) t) l.revision))

-- a reflector that streams and has not been refused asks for a stream from its start after an expiry, at the revision that it had
abbrev pub ExpiriesStreamAgain : Type 0
ExpiriesStreamAgain =
    (s : Reflector) → s.is_streaming ≡ true → (s.phase ≡ Streaming) ⊎ (s.phase ≡ Watching)
    → (let t = reflectors.expired s in IsAtStart t × (asks t ≡ ask.Stream) × (t.revision ≡ s.revision))

-- one that is cut before its initial events are closed drops them and asks for a stream from its start, at the revision that it had
abbrev pub CutsDropInitialEvents : Type 0
CutsDropInitialEvents = (s : Reflector) → s.phase ≡ Streaming → (let t = reflectors.cut s in IsAtStart t × (asks t ≡ ask.Stream) × (t.revision ≡ s.revision))

-- whatever comes, a reflector stays of its kind, and one that streams or one that does not
abbrev pub StepsKeepStreaming : Type 0
StepsKeepStreaming = (s : Reflector) (ts : List Step) → (let t = after_steps ts s in (t.is_streaming ≡ s.is_streaming) × (t.kind ≡ s.kind))
