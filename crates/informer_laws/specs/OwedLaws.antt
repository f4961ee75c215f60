-- Laws of what a change owes.
use Rattle.std.specs.Prelude.{◌≡◌, ◌⊎◌, ℕ, List, true, false, Some}
use Rattle.std.specs.List.{Contains}
use Rattle.serde_json.specs.Data.{Data}
use Rattle.spec_api.specs.declared.kinds.Kind.TheVariants.{Pod, ReplicaSet}
use Rattle.spec_api.specs.History.{Entries}
use Rattle.spec_api.specs.Keys.{Key}
use Rattle.spec_api.specs.Metadata.{uid}
use Rattle.spec_client_go.specs.declared.controller.Controller.TheVariants as controller
use Rattle.spec_client_go.specs.Informers.{Looks, of_namespace, of_owner}
use Rattle.spec_client_go.specs.OwedKeys.{Change, selects, lives_on}
use Rattle.spec_client_go.specs.OwnerReferences.{has_controller, namespace_of, controller_keys, owner_keys}
use Rattle.reconcile_locality_laws.specs.Differences.{Owes}

-- the object as it was before the change, or as it is
abbrev pub IsOf : Change → Data → Type 0
IsOf c d = (c.old ≡ Some d) ⊎ (c.new ≡ Some d)

-- a ReplicaSet of the namespace of a Pod without a controller, whose selector matches it, is looked at
abbrev pub SelectingSetsAreOwed : Type 0
SelectingSetsAreOwed =
    (c : Change) (l : Looks) (d : Data) (m : Key × Data) → c.kind ≡ Pod → c.new ≡ Some d → has_controller d ≡ false → Contains (of_namespace (namespace_of d) l.replica_sets) m → selects d m ≡ true
    → Owes c l controller.ReplicaSet m.0

-- the ReplicaSets that control a Pod, or did before the change, are looked at
abbrev pub ControllersAreOwed : Type 0
ControllersAreOwed = (c : Change) (l : Looks) (d : Data) (k : Key) → c.kind ≡ Pod → IsOf c d → Contains (controller_keys ReplicaSet d) k → Owes c l controller.ReplicaSet k

-- the owners of an object, or those before the change, are looked at
abbrev pub OwnersAreOwed : Type 0
OwnersAreOwed = (c : Change) (l : Looks) (d : Data) (k : Key) → IsOf c d → Contains (owner_keys d) k → Owes c l controller.Collector k

-- one of the maps that are looked at
abbrev pub IsLookedAt : Looks → Entries → Type 0
IsLookedAt l ms = (ms ≡ l.config_maps) ⊎ ((ms ≡ l.pods) ⊎ ((ms ≡ l.replica_sets) ⊎ (ms ≡ l.deployments)))

-- what has an owner that is gone, is being deleted, or whose name another has is looked at
abbrev pub DependentsAreOwed : Type 0
DependentsAreOwed =
    (c : Change) (l : Looks) (ms : Entries) (d : Data) (u : List ℕ) (m : Key × Data) → IsOf c d → uid d ≡ Some u → lives_on c.new d ≡ false → IsLookedAt l ms → Contains (of_owner u ms) m
    → Owes c l controller.Collector m.0
