-- What a plan's law is given of a last turn, with no steps in it: what was published since its take leads to what is there by changes that owed its key nothing.
use Rattle.std.specs.Prelude.{◌≡◌, ℕ, List, ◌++◌, IfSome}
use Rattle.std.specs.List.{AllByRecursion}
use Rattle.spec_api.specs.declared.kinds.Kind.{Kind}
use Rattle.spec_api.specs.declared.kinds.Kind.TheVariants.{ConfigMap, Pod, ReplicaSet, Deployment}
use Rattle.spec_api.specs.History.{History, Entries, present, list, found}
use Rattle.spec_api.specs.Keys.{Key}
use Rattle.spec_client_go.specs.Informers.{Looks}
use Rattle.spec_client_go.specs.OwedKeys.{keys_of, own_key}
use Rattle.spec_client_go.specs.Shifts.{Shift}
use Rattle.spec_client_go.specs.WorkQueues.{WorkKey}
use Rattle.spec_laws.specs.SentLaws.{whole}
use Rattle.spec_server.specs.Snapshots.{Snapshot}
use Rattle.spec_sim.specs.declared.initial_syncs.InitialSync.{InitialSync}
use Rattle.spec_sim.specs.Clusters.{history, looks}
use Rattle.spec_sim.specs.ControlPlanes.{ControlPlane, Step, opened, run, change_of}
use Rattle.spec_sim.specs.Turns.{Turn}
use Rattle.sim_worker_laws.specs.IssuedLaws.{IsSeen}
use Rattle.sim_worker_laws.specs.OwedLaws.{IsAmong}
use Rattle.sim_rest_laws.specs.Rests.{IsAtRest}
use Rattle.sim_rest_laws.specs.ShiftRunLaws.{Lead}
use Rattle.sim_rest_laws.specs.LastTurnLaws.{BeganOnce, IsLastTurn, at_take, since_take}

abbrev pub of_kind : Kind → Looks → Entries
of_kind ConfigMap l = l.config_maps
of_kind Pod l = l.pods
of_kind ReplicaSet l = l.replica_sets
of_kind Deployment l = l.deployments

-- the lists of the four kinds as they are at present
abbrev pub present_looks : History → Looks
present_looks h =
    record {
      config_maps = list h (whole ConfigMap) (present h);
      pods = list h (whole Pod) (present h);
      replica_sets = list h (whole ReplicaSet) (present h);
      deployments = list h (whole Deployment) (present h);
    }

-- what a change puts has the key under which it is put
abbrev pub IsOwn : Shift → Type 0
IsOwn s = IfSome s.new (λ d. own_key s.key.kind d ≡ s.key)

-- a change that owed a key nothing, by looks of this sort
abbrev pub OwedNothing : WorkKey → (Looks → Type 0) → Shift → Type 0
OwedNothing j Shown s = (l : Looks) × Shown l × (IsAmong j (keys_of (change_of s) l) → ⊥) × IsOwn s

-- from each of these looks such changes lead to what is there now, under each key
abbrev pub IsStill : WorkKey → (Looks → Type 0) → Looks → Type 0
IsStill j Shown now =
    (l : Looks) (x : Key) → Shown l → (ss : List Shift) × Lead x (found x (of_kind x.kind l)) ss (found x (of_kind x.kind now)) × AllByRecursion (OwedNothing j Shown) ss

-- a look in a turn is one of a kind of these
abbrev pub IsLookOf : (Looks → Type 0) → Kind → Snapshot → Type 0
IsLookOf Shown k s = (l : Looks) × Shown l × (s.members ≡ of_kind k l)

-- what was published at some point of these steps
abbrev pub ShownIn : ControlPlane → List Step → Looks → Type 0
ShownIn q steps l = (x : List Step) × (y : List Step) × (steps ≡ x ++ y) × (l ≡ looks (run q x).cluster)

-- at rest, so is what was published since the take of a last turn, and each look in it is one of that
abbrev pub LastTurnsAreStill : Type 0
LastTurnsAreStill =
    (window workers : ℕ) (initial : InitialSync) (before between steps : List Step) (j : WorkKey) (t : Turn)
    → (let p = run (opened window workers initial) before in
    let q = run p between in
    BeganOnce p (between ++ steps) → IsAtRest (run q steps) → (z : IsLastTurn q steps j t)
    → (let Shown = ShownIn (at_take q steps j t z) (since_take q steps j t z) in
    IsStill j Shown (present_looks (history (run q steps).cluster)) × AllByRecursion (IsSeen (IsLookOf Shown)) t.sights))
