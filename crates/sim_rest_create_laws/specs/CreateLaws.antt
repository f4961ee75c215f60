-- What controllers create, where all else has come to rest: it owes the key of their turn.
use Rattle.std.specs.Prelude.{◌≡◌, ℕ, List, true}
use Rattle.serde_json.specs.Data.{Data}
use Rattle.spec_api.specs.declared.kinds.Kind.TheVariants.{Pod, ReplicaSet}
use Rattle.spec_api.specs.History.{History}
use Rattle.spec_api.specs.ObjectRequests.{create_object}
use Rattle.spec_api.specs.Verbs.{accept}
use Rattle.spec_client_go.specs.declared.controller.Controller.TheVariants as controller
use Rattle.spec_client_go.specs.WorkQueues.{WorkKey}
use Rattle.spec_reconcile.specs.NewPods.{new_pod}
use Rattle.spec_sim.specs.ControlPlanes.{ControlPlane, Step}
use Rattle.spec_sim.specs.Managers.{answer_of}
use Rattle.spec_sim.specs.Turns.{is_accepted}
use Rattle.sim_rest_laws.specs.StillLaws.{ShownIn}
use Rattle.sim_rest_command_laws.specs.CommandLaws.{WasUnowed}

-- an accepted create of the pod that a ReplicaSet's turn plans owes its key
abbrev pub PodCreatesOwe : Type 0
PodCreatesOwe =
    (h g : History) (moment : List ℕ) (j : WorkKey) (set : Data) (q : ControlPlane) (since : List Step) → j.controller ≡ controller.ReplicaSet → j.key.kind ≡ ReplicaSet
    → (let o = accept (create_object Pod j.key.namespace (new_pod j.key set)) g moment in is_accepted (answer_of o) ≡ true → WasUnowed j (ShownIn q since) h g o → ⊥)
