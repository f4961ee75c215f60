-- What a published change shows of the pods that ReplicaSets expect (kubernetes, pkg/controller/replicaset, event handlers of pods).
use Rattle.std.specs.Prelude.{ℕ, ◌&&◌, not, List, [], ◌++◌, map, flat_map, filter_map, Bool, false, Option, Some, None, option_map, option_and_then, if◌then◌else◌}
use Rattle.serde_json.specs.Data.{Data}
use Rattle.spec_api.specs.declared.kinds.Kind.{Kind}
use Rattle.spec_api.specs.declared.kinds.Kind.TheVariants.{ConfigMap, Pod, ReplicaSet, Deployment}
use Rattle.spec_api.specs.Metadata as metadata
use Rattle.spec_api.specs.Metadata.{uid, is_being_deleted}
use Rattle.spec_client_go.specs.Expectations.{Owner}
use Rattle.spec_client_go.specs.OwedKeys.{one_of}
use Rattle.spec_client_go.specs.OwnerReferences.{key_named, namespace_of, controllers}
use Rattle.spec_client_go.specs.Shifts.{Shift}
use Rattle.spec_reconcile.specs.PodClaims.{have_one_uid}
use Rattle.spec_client_go.specs.Boards.{Observation, creation_observed, deletion_observed}
use Rattle.spec_sim.specs.Followers.{Notification}

-- ---- whose pod it is

-- the ReplicaSet that a controller reference names, by key and uid
abbrev pub set_named : List ℕ → metadata.Owner → Option Owner
set_named ns o = option_and_then (λ k. option_map (λ u. record { key = k; uid = u }) o.uid) (key_named ns ReplicaSet o.name)

-- the ReplicaSets that control a pod
abbrev pub sets_of : Data → List Owner
sets_of pod = filter_map (set_named (namespace_of pod)) (controllers ReplicaSet pod)

-- ---- what is shown

-- a pod with another uid is another pod
abbrev pub is_same_pod : Data → Option Data → Bool
is_same_pod pod None = false
is_same_pod pod (Some other) = have_one_uid pod other

abbrev pub was_being_deleted : Data → Option Data → Bool
was_being_deleted pod None = false
was_being_deleted pod (Some old) = have_one_uid pod old && is_being_deleted old

abbrev pub creation : Data → List Observation
creation pod = map creation_observed (sets_of pod)

abbrev pub deletion : Data → List Observation
deletion pod = flat_map (λ u. map (λ o. deletion_observed o u) (sets_of pod)) (one_of (uid pod))

-- a pod that is seen first was created; one that is being deleted, and was not before, was deleted
abbrev pub seen_now : Option Data → Data → List Observation
seen_now old pod = (if is_same_pod pod old then [] else creation pod) ++ (if is_being_deleted pod && not (was_being_deleted pod old) then deletion pod else [])

-- and so was one that is there no more
abbrev pub seen_no_more : Option Data → Data → List Observation
seen_no_more new pod = if is_same_pod pod new then [] else deletion pod

abbrev pub observations_of_pod : Option Data → Option Data → List Observation
observations_of_pod old new = flat_map (seen_no_more new) (one_of old) ++ flat_map (seen_now old) (one_of new)

abbrev pub observations_by : Kind → Shift → List Observation
observations_by ConfigMap s = []
observations_by Pod s = observations_of_pod s.old s.new
observations_by ReplicaSet s = []
observations_by Deployment s = []

-- what a change shows; those of the first list show nothing, since their pods are older than all that is expected
abbrev pub observations : Notification → List Observation
observations n = if n.is_in_initial_list then [] else observations_by n.shift.key.kind n.shift
