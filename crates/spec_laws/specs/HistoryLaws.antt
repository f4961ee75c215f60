-- What follows from the definitions.
use Rattle.std.specs.Prelude.{Bool, true, false, codes, ◌≡◌, ◌≤◌, ◌<◌, ◌+◌, ◌^◌, ◌++◌, ◌∷◌, [], ℕ, List, length, Some, None, Ok, IfSome, decimal, if◌then◌else◌}
use Rattle.std.specs.Map.{keys_of}
use Rattle.std.specs.List.Sorted.{IsStrictlySortedBy}
use Rattle.serde_json.specs.Data.{Data}
use Rattle.serde_json.specs.Written.{compact_text}
use Rattle.spec_api.specs.declared.kinds.Kind.{Kind}
use Rattle.spec_api.specs.declared.methods.Method.{Method}
use Rattle.spec_api.specs.Replies.{Session, start}
use Rattle.spec_line_protocol.specs.Lines.{after_lines}
use Rattle.spec_api.specs.Keys.{Key, key_cmp, is_same_key}
use Rattle.spec_api.specs.History.{History, Entries, Write, write, present, found, entries_at, state, View, list, seen}
use Rattle.spec_api.specs.Refusals.{Refusal}
use Rattle.spec_api.specs.Metadata.{metadata_text, uid, version}
use Rattle.spec_api.specs.Reading.{reading}
use Rattle.spec_api.specs.Targets.{Asked, Route, route, path_text, read_request}
use Rattle.spec_api.specs.Uids.{uid_text, uid_revision, cluster_word}
use Rattle.spec_api.specs.Verbs.{Outcome, refused, accept_at, accept, write_of, outcome_body, history_after, overflows}
use Rattle.spec_api.specs.ObjectRequests.{Request, get_object, list_objects, create_object, update_object, update_status, patch_object, delete_object}

-- ---- history

-- under each key the members have what the last write that names it put there
abbrev pub MembersAreState : Type 0
MembersAreState = (h : History) (r : ℕ) (k : Key) → found k (entries_at h r) ≡ state h r k

-- the entries stand in strictly ascending order, so each key stands once
abbrev pub MembersAreInOrder : Type 0
MembersAreInOrder = (h : History) (r : ℕ) → IsStrictlySortedBy key_cmp (keys_of (entries_at h r))

-- a list has under each key what is there, if the view asks for it
abbrev pub ListsShowTheState : Type 0
ListsShowTheState = (h : History) (v : View) (r : ℕ) (k : Key) → found k (list h v r) ≡ seen v k (state h r k)

-- a list too stands in strictly ascending order
abbrev pub ListsAreInOrder : Type 0
ListsAreInOrder = (h : History) (v : View) (r : ℕ) → IsStrictlySortedBy key_cmp (keys_of (list h v r))

-- more entries leave what is there at a revision that was reached before them
abbrev pub PastStands : Type 0
PastStands = (h more : History) (r : ℕ) → r ≤ present h → entries_at (h ++ more) r ≡ entries_at h r

-- after one more write its key has what it put, and every other key has what it had
abbrev pub WritesSetState : Type 0
WritesSetState =
    (h : History) (w : Write) (k : Key) → state (h ++ write w ∷ []) (present h + 1) k ≡ (if is_same_key k w.key then w.put else state h (present h) k)

-- ---- the verbs

-- what is true of the object that an outcome writes, if it writes one
abbrev pub OfStored : Outcome → (Key → Data → Type 0) → Type 0
OfStored o P = IfSome (write_of o) (λ w. IfSome w.put (P w.key))

-- each object that is written carries the revision of its write (Kubernetes API Concepts, Resource versions)
abbrev pub WritesCarryTheirRevision : Type 0
WritesCarryTheirRevision = (q : Request) (h : History) (moment : List ℕ) → OfStored (accept q h moment) (λ k d. version d ≡ Some (decimal (present h + 1)))

-- these writes in order, the first at revision r: each object carries the revision of its write
abbrev pub Carry : ℕ → List Write → Type 0
Carry r [] = Unit {0}
Carry r (w ∷ ws) = IfSome w.put (λ d. version d ≡ Some (decimal r)) × Carry (r + 1) ws

-- the uid of a new object encodes the revision of its create, and no object was there
abbrev pub CreatesAreNew : Type 0
CreatesAreNew =
    (kind : Kind) (ns : List ℕ) (d : Data) (h : History) (moment : List ℕ)
    → OfStored (accept (create_object kind ns d) h moment) (λ k new. (state h (present h) k ≡ None) × (uid new ≡ Some (uid_text cluster_word (present h + 1))))

-- an update whose body names a version replaces exactly that version (Kubernetes API Conventions, Concurrency Control and Consistency)
abbrev pub NamedVersionsAreReplaced : Type 0
NamedVersionsAreReplaced =
    (k : Key) (d o : Data) (named : List ℕ) (h : History) (moment : List ℕ) → reading k.kind d ≡ Ok o → version o ≡ Some named
    → OfStored (accept (update_object k d) h moment) (λ written new. (existing : Data) × (written ≡ k) × (state h (present h) k ≡ Some existing) × (version existing ≡ Some named))

-- what is there, if it is a text, is there after
abbrev pub KeepsText : List ℕ → Data → Data → Type 0
KeepsText k existing new = IfSome (metadata_text k existing) (λ t. metadata_text k new ≡ Some t)

-- whatever is written in the place of an object keeps the uid and the time of creation that it has (Kubernetes API Conventions, Metadata)
abbrev pub WritesKeepIdentity : Type 0
WritesKeepIdentity =
    (q : Request) (h : History) (moment : List ℕ)
    → OfStored (accept q h moment) (λ k new. IfSome (state h (present h) k) (λ existing. KeepsText (codes "uid") existing new × KeepsText (codes "creationTimestamp") existing new))

abbrev pub is_delete : Request → Bool
is_delete (get_object k) = false
is_delete (list_objects v) = false
is_delete (create_object kind ns d) = false
is_delete (update_object k d) = false
is_delete (update_status k d) = false
is_delete (patch_object k d) = false
is_delete (delete_object k o) = true

-- no object is longer than an object may be, but for what a delete adds to it
abbrev pub WritesFit : Type 0
WritesFit = (q : Request) (h : History) (moment : List ℕ) → is_delete q ≡ false → OfStored (accept q h moment) (λ k d. length (compact_text d) ≤ 1572864)

-- a write that is accepted has room, whatever is there and at whatever revision
abbrev pub WritesHaveRoom : Type 0
WritesHaveRoom = (q : Request) (ms : Entries) (r : ℕ) (moment : List ℕ) → IfSome (write_of (accept_at q ms r moment)) (λ w. overflows ms r w ≡ false)

-- a refusal writes nothing
abbrev pub RefusalsWriteNothing : Type 0
RefusalsWriteNothing = (q : Request) (h : History) (moment : List ℕ) (f : Refusal) → accept q h moment ≡ refused f → history_after h (accept q h moment) ≡ h

-- what is answered to a create or an update is what the next read of that key finds
abbrev pub AnswersAreRead : Type 0
AnswersAreRead =
    (q : Request) (h : History) (moment : List ℕ)
    → OfStored (accept q h moment)
    (λ k d.
    (outcome_body (accept q h moment) ≡ d) × (state (history_after h (accept q h moment)) (present (history_after h (accept q h moment))) k ≡ Some d))

-- ---- uids

-- the revision is read back from the uid, so two revisions have two uids
abbrev pub UidsHoldRevisions : Type 0
UidsHoldRevisions = (cluster r : ℕ) → r < 2 ^ 62 → uid_revision (uid_text cluster r) ≡ r

-- ---- paths

-- a path is read as the route that has it, and as no other
abbrev pub PathsAreRoutes : Type 0
PathsAreRoutes = (t : List ℕ) (r : Route) → route t ≡ Some r → path_text r ≡ t

-- whatever is asked, by whatever method, the body is no longer than a body may be
abbrev pub BodiesFit : Type 0
BodiesFit = (method : Method) (target text : List ℕ) (q : Asked) → read_request method target text ≡ Ok q → length text ≤ 1048576

-- ---- runs

-- the history after some lines begins with the history before them
abbrev pub RunsOnlyAdd : Type 0
RunsOnlyAdd = (s : Session) (lines : List (List ℕ)) → (more : History) × ((after_lines s lines).history ≡ s.history ++ more)

-- what has happened is the same whatever the size of windows
abbrev pub WindowsOnlyForget : Type 0
WindowsOnlyForget = (m n : ℕ) (lines : List (List ℕ)) → (after_lines (start m) lines).history ≡ (after_lines (start n) lines).history

-- ---- reading

-- what was read reads as itself
abbrev pub ReadsAgain : Type 0
ReadsAgain = (k : Kind) (d e : Data) → reading k d ≡ Ok e → reading k e ≡ Ok e
