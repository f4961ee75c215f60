-- At rest: each object that is there had its turns since the followers began.
use Rattle.std.specs.Prelude.{◌≡◌, ℕ, List, Some}
use Rattle.serde_json.specs.Data.{Data}
use Rattle.spec_api.specs.declared.kinds.Kind.{Kind}
use Rattle.spec_api.specs.declared.kinds.Kind.TheVariants as kind
use Rattle.spec_api.specs.History.{present, state}
use Rattle.spec_api.specs.Keys.{Key}
use Rattle.spec_api.specs.Reached.{IsReached}
use Rattle.spec_client_go.specs.declared.controller.Controller.{Controller}
use Rattle.spec_client_go.specs.declared.controller.Controller.TheVariants.{ReplicaSet, Deployment, Collector}
use Rattle.spec_client_go.specs.OwedKeys.{keys_of}
use Rattle.spec_client_go.specs.Informers.{Looks}
use Rattle.spec_sim.specs.declared.initial_syncs.InitialSync.{InitialSync}
use Rattle.spec_sim.specs.Clusters.{history}
use Rattle.spec_sim.specs.ControlPlanes.{Step, opened, run, change_of}
use Rattle.spec_sim.specs.Turns.{Turn}
use Rattle.spec_client_go.specs.Shifts.{Shift}
use Rattle.spec_client_go.specs.Reflectors.{name_in}
use Rattle.sim_worker_laws.specs.OwedLaws.{IsAmong}
use Rattle.sim_rest_laws.specs.Rests.{IsAtRest}
use Rattle.sim_rest_laws.specs.LastTurnLaws.{BeganOnce, IsLastTurn}

-- the controllers that look at objects of a kind under their own keys
abbrev pub LooksAfter : Controller → Kind → Type 0
LooksAfter Collector k = Unit {0}
LooksAfter ReplicaSet k = k ≡ kind.ReplicaSet
LooksAfter Deployment k = k ≡ kind.Deployment

-- a change that leaves an object under its key owes the key to each of them, by whatever is published
abbrev pub ObjectsOweTheirKeys : Type 0
ObjectsOweTheirKeys =
    (c : Controller) (s : Shift) (d : Data) (l : Looks) → LooksAfter c s.key.kind → s.new ≡ Some d → name_in (record { kind = s.key.kind; value = d }) ≡ s.key
    → IsAmong (record { controller = c; key = s.key }) (keys_of (change_of s) l)

-- where followers have begun anew, as after a restart, and all is at rest: each object that is there had a last turn of each of them since
abbrev pub ObjectsHadTheirTurns : Type 0
ObjectsHadTheirTurns =
    (window workers : ℕ) (initial : InitialSync) (before after : List Step) (c : Controller) (x : Key) (d : Data)
    → (let p = run (opened window workers initial) before in
    let h = history (run p after).cluster in
    BeganOnce p after → IsAtRest (run p after) → IsReached h → LooksAfter c x.kind → state h (present h) x ≡ Some d
    → (t : Turn) × IsLastTurn p after (record { controller = c; key = x }) t)
