-- Turns: what a worker has seen in its turn, what its plan is, and what it has issued of it (kubernetes, pkg/controller).
use Rattle.std.specs.Prelude.{ℕ, ◌==◌, ◌&&◌, List, [], ◌∷◌, ◌++◌, length, map, filter, filter_map, drop, replicate, Bool, true, false, Option, Some, None, option_map, unwrap_or, if◌then◌else◌}
use Rattle.std.specs.List.{list_all}
use Rattle.serde_json.specs.Data.{Data}
use Rattle.spec_api.specs.declared.kinds.Kind.{Kind}
use Rattle.spec_api.specs.declared.kinds.Kind.TheVariants as kind
use Rattle.spec_api.specs.History.{Entries}
use Rattle.spec_api.specs.Keys.{Key}
use Rattle.spec_api.specs.Kinds.{rank}
use Rattle.spec_api.specs.Metadata.{uid, version}
use Rattle.spec_server.specs.Snapshots.{Snapshot}
use Rattle.spec_client_go.specs.declared.controller.Controller.{Controller}
use Rattle.spec_client_go.specs.declared.controller.Controller.TheVariants.{ReplicaSet, Deployment, Collector}
use Rattle.spec_client_go.specs.Commands.{Command, create, update, update_status, delete}
use Rattle.spec_client_go.specs.Expectations.{Owner}
use Rattle.spec_client_go.specs.Hands.{Hand, Read}
use Rattle.spec_client_go.specs.Informers.{Looks}
use Rattle.spec_client_go.specs.WorkQueues.{WorkKey}
use Rattle.spec_client_go.specs.Boards.{Observation, creation_observed, deletion_observed}
use Rattle.spec_reconcile.specs.Deployments as deployments
use Rattle.spec_reconcile.specs.GarbageCollection as garbage_collection
use Rattle.spec_reconcile.specs.ReplicaSets as replica_sets

-- ---- what is seen

-- a look at what is published of a kind, or the answer whether all pods that were expected have been seen
pub data Sight : Type 0 where
  looked : Kind → Snapshot → Sight
  satisfied : Bool → Sight

-- ---- what is issued

-- what is known of a command that was issued: it was accepted, with this code and body, or refused, with this code, or nothing is known
pub data Answer : Type 0 where
  accepted : ℕ → Data → Answer
  refused : ℕ → Answer
  lost : Answer

-- a command that was issued, and its answer
pub record Issue : Type 0 where
  pub command : Command
  pub answer : Answer

-- ---- a turn

-- the key in a worker's hands; what the worker has seen, in order, and read live; whether what its plan makes of pods is expected;
-- and the commands that it has issued, in order
pub record Turn : Type 0 where
  pub work_key : WorkKey
  pub sights : List Sight
  pub reads : List Read
  pub has_expected : Bool
  pub issues : List Issue

-- a key was taken
abbrev pub begun : WorkKey → Turn
begun k = record { work_key = k; sights = []; reads = []; has_expected = false; issues = [] }

abbrev pub with_sight : Sight → Turn → Turn
with_sight s t = record t { sights = t.sights ++ s ∷ [] }

abbrev pub with_read : Read → Turn → Turn
with_read r t = record t { reads = t.reads ++ r ∷ [] }

abbrev pub with_expected : Turn → Turn
with_expected t = record t { has_expected = true }

abbrev pub with_issue : Issue → Turn → Turn
with_issue i t = record t { issues = t.issues ++ i ∷ [] }

-- ---- what the plan is made of

-- the members that the look at a kind showed
abbrev pub shown : Kind → List Sight → Entries
shown k [] = []
shown k (looked j s ∷ ss) = if rank k == rank j then s.members else shown k ss
shown k (satisfied b ∷ ss) = shown k ss

abbrev pub was_satisfied : List Sight → Bool
was_satisfied [] = false
was_satisfied (looked k s ∷ ss) = was_satisfied ss
was_satisfied (satisfied b ∷ ss) = b

abbrev pub looks : List Sight → Looks
looks ss =
    record {
      config_maps = shown kind.ConfigMap ss;
      pods = shown kind.Pod ss;
      replica_sets = shown kind.ReplicaSet ss;
      deployments = shown kind.Deployment ss;
    }

abbrev pub hand : Turn → Hand
hand t = record { key = t.work_key.key; looks = looks t.sights; is_satisfied = was_satisfied t.sights; reads = t.reads }

-- what a controller reads live still, and what it plans, of what a worker has read in its turn (kept shut: who computes a plan unfolds them)
unfoldable pub asks_by : Controller → Hand → List Key
asks_by ReplicaSet h = replica_sets.asks h
asks_by Deployment h = deployments.asks h
asks_by Collector h = garbage_collection.asks h

unfoldable pub plan_by : Controller → Hand → List Command
plan_by ReplicaSet h = replica_sets.plan h
plan_by Deployment h = deployments.plan h
plan_by Collector h = garbage_collection.plan h

-- what is still to be read live
abbrev pub asks : Turn → List Key
asks t = asks_by t.work_key.controller (hand t)

-- the commands of the turn, in order
abbrev pub commands : Turn → List Command
commands t = plan_by t.work_key.controller (hand t)

-- ---- commands issued one after another

abbrev pub is_accepted : Answer → Bool
is_accepted (accepted code body) = true
is_accepted (refused code) = false
is_accepted lost = false

abbrev pub is_refused : Answer → Bool
is_refused (accepted code body) = false
is_refused (refused code) = true
is_refused lost = false

abbrev pub all_accepted : List Issue → Bool
all_accepted is = list_all (λ (i : Issue). is_accepted i.answer) is

-- the commands that are still to be issued
abbrev pub left : Turn → List Command
left t = drop (length t.issues) (commands t)

abbrev pub version_in : Answer → Option (List ℕ)
version_in (accepted code body) = version body
version_in (refused code) = None
version_in lost = None

-- the version of the last answer
abbrev pub version_answered : List Issue → Option (List ℕ)
version_answered [] = None
version_answered (i ∷ []) = version_in i.answer
version_answered (i ∷ j ∷ is) = version_answered (j ∷ is)

-- ---- what is expected of pods

-- the ReplicaSet of a turn of its controller, if it was there when it was looked at
abbrev pub owner_by : Controller → Hand → Option Owner
owner_by ReplicaSet h = option_map (λ set. record { key = h.key; uid = unwrap_or (uid set) [] }) (replica_sets.set_looked_at h)
owner_by Deployment h = None
owner_by Collector h = None

abbrev pub owner : Turn → Option Owner
owner t = owner_by t.work_key.controller (hand t)

abbrev pub is_pod : Kind → Bool
is_pod k = rank k == rank kind.Pod

abbrev pub creates_pod : Command → Bool
creates_pod (create k ns d) = is_pod k
creates_pod (update k d) = false
creates_pod (update_status k d) = false
creates_pod (delete k u v p) = false

-- the uid of the pod that a command deletes
abbrev pub pod_deleted : Command → Option (List ℕ)
pod_deleted (create k ns d) = None
pod_deleted (update k d) = None
pod_deleted (update_status k d) = None
pod_deleted (delete k u v p) = if is_pod k.kind then u else None

-- what commands make of a ReplicaSet's pods: how many they create, and the uids of those that they delete
pub record Expected : Type 0 where
  pub owner : Owner
  pub creations : ℕ
  pub deletions : List (List ℕ)

abbrev pub expected_of : List Command → Owner → Expected
expected_of cs o = record { owner = o; creations = length (filter creates_pod cs); deletions = filter_map pod_deleted cs }

abbrev pub some_pods : Expected → Option Expected
some_pods e = if (e.creations == 0) && (length e.deletions == 0) then None else Some e

abbrev pub expected_by : Option Owner → List Command → Option Expected
expected_by None cs = None
expected_by (Some o) cs = some_pods (expected_of cs o)

-- what is expected before the first command, if the plan creates or deletes pods of a ReplicaSet
abbrev pub expected : Turn → Option Expected
expected t = expected_by (owner t) (commands t)

-- ---- what is not done

-- the commands that were refused, and those that were not issued; of a lost one it is not known
abbrev pub undone : Turn → List Command
undone t = map (λ (i : Issue). i.command) (filter (λ (i : Issue). is_refused i.answer) t.issues) ++ left t

abbrev pub as_observed : Expected → List Observation
as_observed e = replicate e.creations (creation_observed e.owner) ++ map (deletion_observed e.owner) e.deletions

abbrev pub taken_back_by : Option Owner → List Command → List Observation
taken_back_by None cs = []
taken_back_by (Some o) cs = as_observed (expected_of cs o)

-- what they make of pods is expected no longer
abbrev pub taken_back : Turn → List Observation
taken_back t = taken_back_by (owner t) (undone t)
