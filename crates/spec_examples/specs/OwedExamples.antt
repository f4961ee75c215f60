-- Worked facts of informers, computed from the definitions: which keys a change owes.
use Rattle.std.specs.Prelude.{◌≡◌, ℕ, List, [], ◌∷◌, Option, Some, None, Bool, true, false, codes}
use Rattle.serde_json.specs.Data.{Data, string, boolean, array, object, no_items, item, no_members, member, Members as Fields}
use Rattle.spec_api.specs.declared.kinds.Kind.{Kind}
use Rattle.spec_api.specs.declared.kinds.Kind.TheVariants.{Pod, ReplicaSet, Deployment}
use Rattle.spec_api.specs.History.{Entries}
use Rattle.spec_api.specs.Keys.{Key}
use Rattle.spec_client_go.specs.declared.controller.Controller.{Controller}
use Rattle.spec_client_go.specs.declared.controller.Controller.TheVariants as controller
use Rattle.spec_client_go.specs.Informers.{Looks}
use Rattle.spec_client_go.specs.OwedKeys.{Change, keys_of}
use Rattle.spec_client_go.specs.WorkQueues.{WorkKey}

abbrev pub named : Kind → List ℕ → Key
named k n = record { kind = k; namespace = codes "default"; name = n }

abbrev owed : Controller → Kind → List ℕ → WorkKey
owed w k n = record { controller = w; key = named k n }

-- a reference to an owner, which may be the controller
abbrev reference : Bool → List ℕ → List ℕ → List ℕ → Data
reference controls kind name uid =
    object
    (member (codes "apiVersion") (string (codes "apps/v1"))
    (member (codes "controller") (boolean controls)
    (member (codes "kind") (string kind) (member (codes "name") (string name) (member (codes "uid") (string uid) no_members)))))

abbrev references : Data → Fields
references owner = member (codes "ownerReferences") (array (item owner no_items)) no_members

-- the Pod `p` with the label app=web, and what else its metadata says
abbrev pub pod : Fields → Data
pod more =
    object
    (member (codes "metadata")
    (object
    (member (codes "labels") (object (member (codes "app") (string (codes "web")) no_members))
    (member (codes "name") (string (codes "p"))
    (member (codes "namespace") (string (codes "default")) (member (codes "uid") (string (codes "u-p")) more)))))
    no_members)

-- without an owner
abbrev pub free : Data
free = pod no_members

-- controlled by the ReplicaSet `web`
abbrev pub controlled : Data
controlled = pod (references (reference true (codes "ReplicaSet") (codes "web") (codes "u-web")))

-- owned by it, and not controlled
abbrev owned : Data
owned = pod (references (reference false (codes "ReplicaSet") (codes "web") (codes "u-web")))

-- controlled by the ReplicaSet `other`
abbrev moved : Data
moved = pod (references (reference true (codes "ReplicaSet") (codes "other") (codes "u-other")))

-- the ReplicaSet `web` with a uid, which selects a value of the label, is controlled by the Deployment `front`, and what else its metadata says
abbrev web_with : List ℕ → List ℕ → Fields → Data
web_with uid value more =
    object
    (member (codes "metadata")
    (object
    (member (codes "name") (string (codes "web"))
    (member (codes "namespace") (string (codes "default"))
    (member (codes "ownerReferences") (array (item (reference true (codes "Deployment") (codes "front") (codes "u-front")) no_items)) (member (codes "uid") (string uid) more)))))
    (member (codes "spec")
    (object (member (codes "selector") (object (member (codes "matchLabels") (object (member (codes "app") (string value) no_members)) no_members)) no_members))
    no_members))

abbrev web : Data
web = web_with (codes "u-web") (codes "web") no_members

abbrev web_being_deleted : Data
web_being_deleted = web_with (codes "u-web") (codes "web") (member (codes "deletionTimestamp") (string (codes "2026-01-01T00:00:00Z")) no_members)

abbrev looks : Entries → Entries → Looks
looks pods sets = record { config_maps = []; pods = pods; replica_sets = sets; deployments = [] }

-- only this ReplicaSet is there, or nothing
abbrev one_set : Data → Looks
one_set set = looks [] ((named ReplicaSet (codes "web"), set) ∷ [])

abbrev no_set : Looks
no_set = looks [] []

-- the controlled Pod is there, and no ReplicaSet
abbrev one_pod : Looks
one_pod = looks ((named Pod (codes "p"), controlled) ∷ []) []

abbrev of_pod : Option Data → Option Data → Change
of_pod old new = record { kind = Pod; old = old; new = new }

abbrev of_set : Option Data → Option Data → Change
of_set old new = record { kind = ReplicaSet; old = old; new = new }

-- a new Pod owes the ReplicaSet that controls it; the collector looks at both
abbrev pub ControllersAreOwed : Type 0
ControllersAreOwed =
    keys_of (of_pod None (Some controlled)) (one_set web)
    ≡ owed controller.ReplicaSet ReplicaSet (codes "web") ∷ owed controller.Collector Pod (codes "p") ∷ owed controller.Collector ReplicaSet (codes "web") ∷ []

-- one without a controller owes the ReplicaSet that selects it, and no other
abbrev pub AdoptersAreOwed : Type 0
AdoptersAreOwed =
    (keys_of (of_pod None (Some free)) (one_set web) ≡ owed controller.ReplicaSet ReplicaSet (codes "web") ∷ owed controller.Collector Pod (codes "p") ∷ [])
    × (keys_of (of_pod None (Some free)) (one_set (web_with (codes "u-web") (codes "db") no_members)) ≡ owed controller.Collector Pod (codes "p") ∷ [])

-- one that a ReplicaSet owns and does not control does not owe it, unless it is selected; the collector looks at both
abbrev pub OwnersAreOwed : Type 0
OwnersAreOwed =
    (keys_of (of_pod None (Some owned)) no_set ≡ owed controller.Collector Pod (codes "p") ∷ owed controller.Collector ReplicaSet (codes "web") ∷ [])
    × (keys_of (of_pod None (Some owned)) (one_set web)
    ≡ owed controller.ReplicaSet ReplicaSet (codes "web") ∷ owed controller.Collector Pod (codes "p") ∷ owed controller.Collector ReplicaSet (codes "web") ∷ [])

-- one whose controller changed owes the earlier and the later one, and the Deployment over the earlier
abbrev pub BothAreOwed : Type 0
BothAreOwed =
    keys_of (of_pod (Some controlled) (Some moved)) (one_set web)
    ≡ owed controller.ReplicaSet ReplicaSet (codes "other") ∷ owed controller.ReplicaSet ReplicaSet (codes "web") ∷ owed controller.Deployment Deployment (codes "front")
    ∷ owed controller.Collector Pod (codes "p") ∷ owed controller.Collector ReplicaSet (codes "other") ∷ owed controller.Collector ReplicaSet (codes "web") ∷ []

-- one that is gone owes the Deployment over its ReplicaSet, unless another ReplicaSet has that name by now
abbrev pub DeploymentsAreOwed : Type 0
DeploymentsAreOwed =
    (keys_of (of_pod (Some controlled) None) (one_set web)
    ≡ owed controller.ReplicaSet ReplicaSet (codes "web") ∷ owed controller.Deployment Deployment (codes "front") ∷ owed controller.Collector ReplicaSet (codes "web") ∷ [])
    × (keys_of (of_pod (Some controlled) None) (one_set (web_with (codes "u-new") (codes "web") no_members))
    ≡ owed controller.ReplicaSet ReplicaSet (codes "web") ∷ owed controller.Collector ReplicaSet (codes "web") ∷ [])

-- a ReplicaSet that is gone owes its dependents and its owner
abbrev pub DependentsAreOwed : Type 0
DependentsAreOwed =
    keys_of (of_set (Some web) None) one_pod
    ≡ owed controller.ReplicaSet ReplicaSet (codes "web") ∷ owed controller.Deployment Deployment (codes "front") ∷ owed controller.Collector Pod (codes "p")
    ∷ owed controller.Collector Deployment (codes "front") ∷ []

-- one that is being deleted owes itself too
abbrev pub DeletionsAreOwed : Type 0
DeletionsAreOwed =
    keys_of (of_set (Some web) (Some web_being_deleted)) one_pod
    ≡ owed controller.ReplicaSet ReplicaSet (codes "web") ∷ owed controller.Deployment Deployment (codes "front") ∷ owed controller.Collector Pod (codes "p")
    ∷ owed controller.Collector ReplicaSet (codes "web") ∷ owed controller.Collector Deployment (codes "front") ∷ []

-- one whose name another has owes them as one that is gone does
abbrev pub ReplacedOwnersOwe : Type 0
ReplacedOwnersOwe =
    keys_of (of_set (Some web) (Some (web_with (codes "u-new") (codes "web") no_members))) one_pod
    ≡ owed controller.ReplicaSet ReplicaSet (codes "web") ∷ owed controller.Deployment Deployment (codes "front") ∷ owed controller.Collector Pod (codes "p")
    ∷ owed controller.Collector ReplicaSet (codes "web") ∷ owed controller.Collector Deployment (codes "front") ∷ []

-- one that lives on does not owe its dependents
abbrev pub LiveOwnersOweNone : Type 0
LiveOwnersOweNone =
    keys_of (of_set (Some web) (Some web)) one_pod
    ≡ owed controller.ReplicaSet ReplicaSet (codes "web") ∷ owed controller.Deployment Deployment (codes "front") ∷ owed controller.Collector ReplicaSet (codes "web")
    ∷ owed controller.Collector Deployment (codes "front") ∷ []
