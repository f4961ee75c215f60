-- What it says of an object that the garbage collector has nothing to do for it.
use Rattle.std.specs.Prelude.{◌≡◌, ℕ, List, [], true, false, Some, IfSome}
use Rattle.std.specs.List.{AllByRecursion, list_any}
use Rattle.serde_json.specs.Data.{Data}
use Rattle.spec_api.specs.Checks.{finalizers, has_text}
use Rattle.spec_api.specs.Deletion.{orphan, foreground}
use Rattle.spec_api.specs.Metadata.{Owner, owners, is_being_deleted}
use Rattle.spec_client_go.specs.Hands.{Hand, Read, live}
use Rattle.spec_client_go.specs.OwnerReferences.{owner_key, namespace_of}
use Rattle.spec_reconcile.specs.GarbageCollection.{plan}
use Rattle.spec_reconcile.specs.Standings.{blocks, dependents, is_to, waits_for_dependents}

-- an owner of a served kind is there, and does not wait for its dependents to go
abbrev pub Stands : List Read → List ℕ → Owner → Type 0
Stands reads ns o = IfSome (owner_key ns o) (λ k. (d : Data) × (live reads k ≡ Some d) × (is_to d o ≡ true) × (waits_for_dependents d ≡ false))

-- an object that is not being deleted has no owner of a served kind that is gone, or waits for its dependents to go
abbrev pub EmptyPlansAreOfOwned : Type 0
EmptyPlansAreOfOwned =
    (h : Hand) (d : Data) → live h.reads h.key ≡ Some d → is_being_deleted d ≡ false → plan h ≡ [] → AllByRecursion (Stands h.reads (namespace_of d)) (owners d)

-- one that is being deleted and waits for its dependents to go has one that blocks it, and none waits to be orphaned
abbrev pub EmptyPlansAreOfBlocked : Type 0
EmptyPlansAreOfBlocked =
    (h : Hand) (d : Data) → live h.reads h.key ≡ Some d → is_being_deleted d ≡ true → plan h ≡ []
    → (has_text (finalizers d) orphan ≡ false) × (has_text (finalizers d) foreground ≡ true → list_any (λ m. blocks d m.1) (dependents h.looks d) ≡ true)
