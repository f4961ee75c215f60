-- What becomes of an object, whatever is asked: by which requests it is removed, and what stays.
use Rattle.std.specs.Prelude.{◌≡◌, ◌⊎◌, ℕ, List, [], ◌∷◌, Bool, true, false, not, is_some, Option, Some, None, IfSome, Ok, codes, if◌then◌else◌}
use Rattle.std.specs.Str.{bytes_eq}
use Rattle.serde_json.specs.Data.{Data, Items, no_items, item}
use Rattle.serde_json.specs.Find.{get}
use Rattle.spec_api.specs.declared.kinds.Kind.{Kind}
use Rattle.spec_api.specs.declared.policies.Policy.{Policy}
use Rattle.spec_api.specs.Checks.{finalizers, has_text}
use Rattle.spec_api.specs.DeleteOptions.{Options}
use Rattle.spec_api.specs.Deletion.{is_of_policy, of_policy}
use Rattle.spec_api.specs.History.{History, Write, writes, present, state}
use Rattle.spec_api.specs.Kinds.{has_generation}
use Rattle.spec_laws.specs.HistoryLaws.{OfStored, KeepsText, is_delete}
use Rattle.spec_api.specs.Reached.{IsReached}
use Rattle.spec_api.specs.Metadata.{metadata, uid, version, is_being_deleted}
use Rattle.spec_api.specs.Keys.{Key}
use Rattle.spec_api.specs.Reading.{reading}
use Rattle.spec_api.specs.Replacements.{generation, next_generation, is_new_generation}
use Rattle.spec_api.specs.Values.{merged}
use Rattle.spec_api.specs.Verbs.{Outcome, accept, write_of, outcome_body, history_after, object_in}
use Rattle.spec_api.specs.ObjectRequests.{Request, create_object, update_object, update_status, patch_object, delete_object}

-- what is true of the object that is there before a request, and of the one that it writes in its place
abbrev pub OfReplaced : History → Outcome → (Key → Data → Data → Type 0) → Type 0
OfReplaced h o P = OfStored o (λ k new. IfSome (state h (present h) k) (λ existing. P k existing new))

-- what is true of the object that a request removes
abbrev pub IfRemoved : Option Data → Type 0 → Type 0
IfRemoved None P = P
IfRemoved (Some d) P = Unit {0}

abbrev pub OfRemoved : History → Outcome → (Key → Data → Type 0) → Type 0
OfRemoved h o P = IfSome (write_of o) (λ w. IfRemoved w.put ((existing : Data) × (state h (present h) w.key ≡ Some existing) × P w.key existing))

-- ---- finalizers

-- of these finalizers none stands for more than a policy
abbrev pub all_of_policy : Items → Bool
all_of_policy no_items = true
all_of_policy (item d ds) = if is_of_policy d then all_of_policy ds else false

-- a delete removes only what has no finalizer but those of the policies; and one without a policy, only what has none at all (Kubernetes, Finalizers)
abbrev pub DeletesSpareFinalizers : Type 0
DeletesSpareFinalizers =
    (k : Key) (o : Options) (h : History) (moment : List ℕ)
    → OfRemoved h (accept (delete_object k o) h moment)
    (λ gone existing. (gone ≡ k) × (all_of_policy (finalizers existing) ≡ true) × (o.policy ≡ None → finalizers existing ≡ no_items))

-- every other request removes only what is being deleted, when it removes the last finalizer (Kubernetes, Finalizers)
abbrev pub LastFinalizersRemove : Type 0
LastFinalizersRemove =
    (q : Request) (h : History) (moment : List ℕ) → is_delete q ≡ false
    → OfRemoved h (accept q h moment) (λ k existing. (is_being_deleted existing ≡ true) × (metadata (codes "finalizers") (outcome_body (accept q h moment)) ≡ None))

-- ---- what is being deleted

-- an object that is being deleted is so since the same moment until it is removed (Kubernetes API Conventions, Metadata)
abbrev pub WritesKeepDeletions : Type 0
WritesKeepDeletions = (q : Request) (h : History) (moment : List ℕ) → OfReplaced h (accept q h moment) (λ k existing new. KeepsText (codes "deletionTimestamp") existing new)

-- to an object that is being deleted no finalizer is added, but that of a delete's policy
abbrev pub NoFinalizerIsAdded : Type 0
NoFinalizerIsAdded =
    (q : Request) (h : History) (moment : List ℕ)
    → OfReplaced h (accept q h moment)
    (λ k existing new.
    (t : List ℕ) → is_being_deleted existing ≡ true → has_text (finalizers new) t ≡ true
    → ((is_delete q ≡ true) × (policy : Policy) × (has_text (of_policy policy) t ≡ true)) ⊎ (has_text (finalizers existing) t ≡ true))

-- ---- uids

-- no object of these writes has a uid
abbrev pub NoneHas : List ℕ → List Write → Type 0
NoneHas t [] = Unit {0}
NoneHas t (w ∷ ws) = IfSome w.put (λ d. uid d ≡ Some t → ⊥) × NoneHas t ws

-- whoever asked, no object that was ever there has the uid of the next one that is created (RFC 9562, UUID Version 8)
abbrev pub NewUidsAreUnused : Type 0
NewUidsAreUnused =
    (h : History) (kind : Kind) (ns : List ℕ) (d : Data) (moment : List ℕ) → IsReached h
    → OfStored (accept (create_object kind ns d) h moment) (λ k new. (t : List ℕ) × (uid new ≡ Some t) × NoneHas t (writes h))

-- ---- generations

-- whether a request makes what stands in the place of an object a new generation: a delete, where deletion begins by it; any other, where the spec, or of a Deployment the annotations, is another (Kubernetes API Conventions, Metadata)
abbrev pub rises : Request → Kind → Data → Data → Bool
rises q k existing new = if is_delete q then not (is_being_deleted existing) else is_new_generation k existing new

-- the generation rises by one there, and in no other case
abbrev pub GenerationsCount : Type 0
GenerationsCount =
    (q : Request) (h : History) (moment : List ℕ)
    → OfReplaced h (accept q h moment)
    (λ k existing new.
    has_generation k.kind ≡ true → is_some (metadata (codes "generation") existing) ≡ true
    → generation new ≡ (if rises q k.kind existing new then next_generation (generation existing) else generation existing))

-- the first generation is 1
abbrev pub GenerationsBegin : Type 0
GenerationsBegin =
    (kind : Kind) (ns : List ℕ) (d : Data) (h : History) (moment : List ℕ) → has_generation kind ≡ true
    → OfStored (accept (create_object kind ns d) h moment) (λ k new. generation new ≡ 1)

-- ---- statuses

-- an update of the status leaves every member but the status as it is, and of the metadata all but the version (Kubernetes API Conventions, Spec and Status)
abbrev pub StatusesChangeNothingElse : Type 0
StatusesChangeNothingElse =
    (k : Key) (d : Data) (h : History) (moment : List ℕ)
    → OfReplaced h (accept (update_status k d) h moment)
    (λ written existing new.
    ((q : List ℕ) → bytes_eq q (codes "status") ≡ false → bytes_eq q (codes "metadata") ≡ false → get q new ≡ get q existing)
    × ((q : List ℕ) → bytes_eq q (codes "resourceVersion") ≡ false → metadata q new ≡ metadata q existing))

-- ---- named versions

-- what is written under a key, or removed, stood there at just this version
abbrev pub ReplacesVersion : Key → List ℕ → History → Outcome → Type 0
ReplacesVersion k named h o = IfSome (write_of o) (λ w. (existing : Data) × (w.key ≡ k) × (state h (present h) k ≡ Some existing) × (version existing ≡ Some named))

-- what is written under a key, or removed, had just this uid
abbrev pub ReplacesUid : Key → List ℕ → History → Outcome → Type 0
ReplacesUid k named h o = IfSome (write_of o) (λ w. (existing : Data) × (w.key ≡ k) × (state h (present h) k ≡ Some existing) × (uid existing ≡ Some named))

-- each update, update of the status, patch and delete that names a version, where it writes or removes, does so to exactly that version (Kubernetes API Conventions, Concurrency Control and Consistency)
abbrev pub UpdatesReplaceTheirVersion : Type 0
UpdatesReplaceTheirVersion =
    (k : Key) (d o : Data) (named : List ℕ) (h : History) (moment : List ℕ) → reading k.kind d ≡ Ok o → version o ≡ Some named
    → ReplacesVersion k named h (accept (update_object k d) h moment)

abbrev pub StatusesReplaceTheirVersion : Type 0
StatusesReplaceTheirVersion =
    (k : Key) (d o : Data) (named : List ℕ) (h : History) (moment : List ℕ) → reading k.kind d ≡ Ok o → version o ≡ Some named
    → ReplacesVersion k named h (accept (update_status k d) h moment)

abbrev pub PatchesReplaceTheirVersion : Type 0
PatchesReplaceTheirVersion =
    (k : Key) (d existing o : Data) (named : List ℕ) (h : History) (moment : List ℕ) → state h (present h) k ≡ Some existing → object_in k.kind (merged existing d) ≡ Ok o → version o ≡ Some named
    → ReplacesVersion k named h (accept (patch_object k d) h moment)

abbrev pub DeletesRemoveTheirVersion : Type 0
DeletesRemoveTheirVersion =
    (k : Key) (o : Options) (named : List ℕ) (h : History) (moment : List ℕ) → o.version ≡ Some named
    → ReplacesVersion k named h (accept (delete_object k o) h moment)

-- a delete that names a uid writes or removes only the object with that uid (Kubernetes API reference, Preconditions)
abbrev pub DeletesFindTheirUid : Type 0
DeletesFindTheirUid =
    (k : Key) (o : Options) (named : List ℕ) (h : History) (moment : List ℕ) → o.uid ≡ Some named
    → ReplacesUid k named h (accept (delete_object k o) h moment)

-- ---- no write

-- a request that writes nothing leaves the history as it is
abbrev pub NoWriteNoChange : Type 0
NoWriteNoChange = (q : Request) (h : History) (moment : List ℕ) → write_of (accept q h moment) ≡ None → history_after h (accept q h moment) ≡ h
