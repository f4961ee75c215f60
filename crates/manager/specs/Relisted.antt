-- What is looked at again after a list that is not the first. What was made and removed since the publish before it shows in no change, so it owes no key.
use Rattle.std.specs.Prelude.{ℕ, List, [], ◌++◌, map, filter, not, Bool, Option}
use Rattle.std.specs.List.{list_any}
use Rattle.serde_json.specs.Data.{Data}
use Rattle.spec_api.specs.declared.kinds.Kind.{Kind}
use Rattle.spec_api.specs.declared.kinds.Kind.TheVariants.{ConfigMap, Pod, ReplicaSet, Deployment}
use Rattle.spec_api.specs.History.{Entries, found}
use Rattle.spec_api.specs.Keys.{Key}
use Rattle.spec_api.specs.Metadata.{Owner, owners, uid}
use Rattle.spec_api.specs.SelectorValues.{is_some_and}
use Rattle.spec_client_go.specs.declared.controller.Controller.TheVariants as controller
use Rattle.spec_client_go.specs.Informers.{Looks}
use Rattle.spec_client_go.specs.OwedKeys.{for_controller}
use Rattle.spec_client_go.specs.OwnerReferences.{is_text, owner_key, namespace_of}
use Rattle.spec_client_go.specs.WorkQueues.{WorkKey}
use Rattle.spec_server.specs.Snapshots.{Snapshot}
use Rattle.reconcile_types.specs.Hands.{looks_of}
use Rattle.object_keys.specs.declared.per_kind.PerKind.{PerKind}
use Rattle.list_and_watch.specs.declared.causes.Cause.{Cause}
use Rattle.list_and_watch.specs.declared.causes.Cause.TheVariants.{FirstList, LaterList, Changes}

-- what is shown of a kind
abbrev pub shown_of : Kind → Looks → Entries
shown_of ConfigMap l = l.config_maps
shown_of Pod l = l.pods
shown_of ReplicaSet l = l.replica_sets
shown_of Deployment l = l.deployments

-- whether an object under this key is shown, and has this uid
abbrev pub is_shown : Looks → Option (List ℕ) → Key → Bool
is_shown l u k = is_some_and (λ d. is_some_and (λ t. is_text t (uid d)) u) (found k (shown_of k.kind l))

-- whether a reference in a namespace is to an object of a served kind that is not shown
abbrev pub is_lost : Looks → List ℕ → Owner → Bool
is_lost l ns o = is_some_and (λ k. not (is_shown l o.uid k)) (owner_key ns o)

-- whether one of the object's owners is such
abbrev pub lacks_owner : Looks → Data → Bool
lacks_owner l d = list_any (is_lost l (namespace_of d)) (owners d)

abbrev pub keys_in : Entries → List Key
keys_in ms = map (λ m. m.0) ms

-- the objects that lack an owner
abbrev pub lacking_in : Looks → Entries → List Key
lacking_in l ms = keys_in (filter (λ m. lacks_owner l m.1) ms)

abbrev pub lacking : Looks → List Key
lacking l = lacking_in l l.config_maps ++ (lacking_in l l.pods ++ (lacking_in l l.replica_sets ++ lacking_in l l.deployments))

-- each ReplicaSet and each Deployment that is shown; and by the collector each object that names an owner which is not
abbrev pub relisted : Looks → List WorkKey
relisted l =
    for_controller controller.ReplicaSet (keys_in l.replica_sets)
    ++ (for_controller controller.Deployment (keys_in l.deployments) ++ for_controller controller.Collector (lacking l))

-- what is looked at again for a cause
abbrev pub keys_again : Cause → PerKind Snapshot → List WorkKey
keys_again FirstList maps = []
keys_again LaterList maps = relisted (looks_of (λ m. m) maps)
keys_again Changes maps = []
