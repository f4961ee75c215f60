-- What differs between two looks, and owes no look of a controller at a key.
use Rattle.std.specs.Prelude.{◌≡◌, List, [], ◌∷◌, true, IfSome, Option, Some}
use Rattle.std.specs.List.{AllByRecursion, list_any}
use Rattle.std.specs.Ordering.{is_eq}
use Rattle.std.specs.List.Sorted.{IsStrictlySortedBy}
use Rattle.std.specs.Map as map
use Rattle.serde_json.specs.Data.{Data}
use Rattle.spec_api.specs.declared.kinds.Kind.{Kind}
use Rattle.spec_api.specs.History.{Entries, found}
use Rattle.spec_api.specs.Keys.{Key, key_cmp}
use Rattle.spec_api.specs.Metadata.{owners}
use Rattle.spec_client_go.specs.declared.controller.Controller.{Controller}
use Rattle.spec_client_go.specs.Informers.{Looks}
use Rattle.spec_client_go.specs.OwedKeys.{Change, keys_of, own_key}
use Rattle.spec_client_go.specs.OwnerReferences.{owner_key, namespace_of}
use Rattle.spec_client_go.specs.WorkQueues.{work_key_cmp}
use Rattle.spec_reconcile.specs.Standings.{is_to}

-- objects of a kind, each under its own key, once, in the order of keys
pub record IsMap (k : Kind) (ms : Entries) : Type 0 where
  pub in_order : IsStrictlySortedBy key_cmp (map.keys_of ms)
  pub own_keys : AllByRecursion (λ m. own_key k m.1 ≡ m.0) ms

-- what a key showed, and what it shows now
abbrev pub change : Kind → Option Data → Option Data → Change
change k old new = record { kind = k; old = old; new = new }

-- a change owes that a controller looks at a key
abbrev pub Owes : Change → Looks → Controller → Key → Type 0
Owes c l w k = list_any (λ q. is_eq (work_key_cmp (record { controller = w; key = k }) q)) (keys_of c l) ≡ true

-- a change owes no look at a key, where it is handled by looks of this sort
abbrev pub OwesNone : Controller → Key → (Looks → Type 0) → Change → Type 0
OwesNone w k Shows c = (l : Looks) × Shows l × (Owes c l w k → ⊥)

-- what was under a key became one thing after another, and in the end what is there now; each change was one of these, and what was put has that key
abbrev pub Led : (Change → Type 0) → Kind → Key → Option Data → List (Option Data) → Option Data → Type 0
Led Q kind x old [] new = old ≡ new
Led Q kind x old (o ∷ os) new = Q (change kind old o) × IfSome o (λ d. own_key kind d ≡ x) × Led Q kind x o os new

-- changes lead to what is under a key, each of which owed no look at another
abbrev pub LedUnowed : Controller → Key → (Looks → Type 0) → Kind → Key → Option Data → Option Data → Type 0
LedUnowed w k Shows kind x old new = (os : List (Option Data)) × Led (OwesNone w k Shows) kind x old os new

-- so they do under each key, from one map to another
abbrev pub Unowed : Controller → Key → (Looks → Type 0) → Kind → Entries → Entries → Type 0
Unowed w k Shows kind a b = (x : Key) → LedUnowed w k Shows kind x (found x a) (found x b)

-- each owner reference of an object with the uid of another names the other's key: its kind, its namespace and its name (Kubernetes, Owners and Dependents)
abbrev pub NameIt : Key → Data → Data → Type 0
NameIt k owner d = AllByRecursion (λ o. is_to owner o ≡ true → owner_key (namespace_of d) o ≡ Some k) (owners d)

-- so do those of each object
abbrev pub AreNamed : Key → Data → Entries → Type 0
AreNamed k owner ms = AllByRecursion (λ m. NameIt k owner m.1) ms
