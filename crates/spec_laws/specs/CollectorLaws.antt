-- What the garbage collector never does (Kubernetes, Garbage Collection).
use Rattle.std.specs.Prelude.{◌≡◌, ◌≤◌, ◌⊎◌, ℕ, List, [], ◌∷◌, true, is_some, Option, Some, IfSome, option_map, Ok}
use Rattle.serde_json.specs.Data.{Data}
use Rattle.spec_api.specs.History.{History, present, state}
use Rattle.spec_api.specs.Keys.{Key}
use Rattle.spec_api.specs.Metadata.{Owner, owners, uid, version, is_being_deleted}
use Rattle.spec_api.specs.ObjectRequests.{update_object}
use Rattle.spec_api.specs.Reached.{IsReached}
use Rattle.spec_api.specs.Reading.{reading}
use Rattle.spec_api.specs.Verbs.{accept, write_of}
use Rattle.spec_laws.specs.HistoryLaws.{OfStored}
use Rattle.spec_laws.specs.IdentityLaws.{Each}
use Rattle.spec_laws.specs.LifecycleLaws.{OfRemoved}
use Rattle.spec_client_go.specs.Commands.{Command, update, delete, seen, answered, version_named, request_of}
use Rattle.spec_client_go.specs.Hands.{Hand, Read, live}
use Rattle.spec_client_go.specs.OwnerReferences.{owner_key, namespace_of}
use Rattle.spec_reconcile.specs.GarbageCollection.{asks, plan}
use Rattle.spec_reconcile.specs.MetadataEdits.{blocking_nobody}
use Rattle.spec_reconcile.specs.Standings.{is_to}

-- what was found under an owner's key is not this owner, or it is being deleted
abbrev pub IsGone : Owner → Option Data → Type 0
IsGone o found = IfSome found (λ d. is_to d o ≡ true → is_being_deleted d ≡ true)

-- ---- of a hand

-- an owner is of a served kind, and was gone where it was read live
abbrev pub WasGone : List Read → List ℕ → Owner → Type 0
WasGone reads ns o = (k : Key) × (owner_key ns o ≡ Some k) × IsGone o (live reads k)

-- a delete is of the object that was read, by its uid, at the version that was read or that of the answer before; the object names an owner, and each owner was gone
abbrev pub IsOfGarbage : Hand → Data → Command → Type 0
IsOfGarbage h d (delete k u v p) =
    (k ≡ h.key) × (u ≡ uid d) × ((v ≡ option_map seen (version d)) ⊎ (v ≡ Some answered)) × (owners d ≡ [] → ⊥) × Each (WasGone h.reads (namespace_of d)) (owners d)
IsOfGarbage h d c = Unit {0}

-- the collector plans to delete nothing that has an owner which was live where it was read
abbrev pub PlansDeleteGarbage : Type 0
PlansDeleteGarbage = (h : Hand) (d : Data) → live h.reads h.key ≡ Some d → Each (IsOfGarbage h d) (plan h)

-- ---- of owner references

-- two references name the same owner, whether it has to wait or not
abbrev pub AreAlike : Owner → Owner → Type 0
AreAlike a b = (a.api_version ≡ b.api_version) × (a.kind ≡ b.kind) × (a.name ≡ b.name) × (a.uid ≡ b.uid) × (a.is_controller ≡ b.is_controller)

abbrev pub EachAlike : List Owner → List Owner → Type 0
EachAlike [] [] = Unit {0}
EachAlike [] (b ∷ bs) = ⊥
EachAlike (a ∷ os) [] = ⊥
EachAlike (a ∷ os) (b ∷ bs) = AreAlike a b × EachAlike os bs

-- an object for which no owner waits any more has the owners that it had
abbrev pub BlockingNobodyKeepsOwners : Type 0
BlockingNobodyKeepsOwners = (d : Data) → EachAlike (owners (blocking_nobody d)) (owners d)

-- so has what is stored by an update to that, wherever it is served
abbrev pub CutsKeepOwners : Type 0
CutsKeepOwners =
    (k : Key) (d : Data) (h : History) (moment : List ℕ) → reading k.kind d ≡ Ok d → (owners d ≡ [] → ⊥)
    → OfStored (accept (update_object k (blocking_nobody d)) h moment) (λ written new. EachAlike (owners new) (owners d))

-- ---- of all that can happen

-- an update removes only what is being deleted already
abbrev pub Finishes : History → List ℕ → Command → Type 0
Finishes h moment (update k new) = OfRemoved h (accept (update_object k new) h moment) (λ gone existing. is_being_deleted existing ≡ true)
Finishes h moment c = Unit {0}

-- wherever they are served, the collector's updates remove only what is being deleted already
abbrev pub CollectorUpdatesOnlyFinish : Type 0
CollectorUpdatesOnlyFinish = (x : Hand) (h : History) (moment : List ℕ) → Each (Finishes h moment) (plan x)

-- a live read found what was there at some revision from r on
abbrev pub IsReadSince : History → ℕ → Read → Type 0
IsReadSince h r x = (s : ℕ) × (r ≤ s) × (s ≤ present h) × (x.found ≡ state h s x.key)

-- an owner is of a served kind, and is gone by now
abbrev pub OwnerIsGone : History → List ℕ → Owner → Type 0
OwnerIsGone h ns o = (k : Key) × (owner_key ns o ≡ Some k) × IsGone o (state h (present h) k)

-- what is there now under a key names an owner, and each owner is gone
abbrev pub HasNoLiveOwner : History → Key → Type 0
HasNoLiveOwner h k =
    (d : Data) × (state h (present h) k ≡ Some d) × (owners d ≡ [] → ⊥) × Each (OwnerIsGone h (namespace_of d)) (owners d)

-- a delete that names a version, where it takes effect, finds an object without a live owner
abbrev pub Spares : History → List ℕ → Option (List ℕ) → Key → Command → Type 0
Spares h moment before item (delete k u v p) =
    is_some (version_named before v) ≡ true → IfSome (write_of (accept (request_of before (delete k u v p)) h moment)) (λ w. HasNoLiveOwner h item)
Spares h moment before item c = Unit {0}

-- this version, if one is given, is that of a later state of an object, with the same owners
abbrev pub IsLaterVersion : History → ℕ → Key → Data → Option (List ℕ) → Type 0
IsLaterVersion h r k d before =
    IfSome before (λ v. (s : ℕ) × (later : Data) × (r ≤ s) × (s ≤ present h) × (state h s k ≡ Some later) × (version later ≡ Some v) × EachAlike (owners later) (owners d))

-- whatever happened before the object was read live, and between that and the delete: once all that is asked was read, and nothing before the object, the collector's deletes find only
-- objects without a live owner; where one follows an update, by the version that this was answered, the update left the owners as they were
abbrev pub CollectorSparesLiveOwners : Type 0
CollectorSparesLiveOwners =
    (h : History) (r : ℕ) (x : Hand) (item : Data) (before : Option (List ℕ)) (moment : List ℕ)
    → IsReached h → r ≤ present h → state h r x.key ≡ Some item → live x.reads x.key ≡ Some item → asks x ≡ [] → Each (IsReadSince h r) x.reads
    → IsLaterVersion h r x.key item before → Each (Spares h moment before x.key) (plan x)
