-- Worked facts of lines, computed from the definitions: which lines ask for which steps, and how outcomes are told.
use Rattle.std.specs.Prelude.{◌≡◌, ℕ, List, [], ◌∷◌, ◌++◌, true, false, Some, None, codes, unwrap_or}
use Rattle.serde_json.specs.Data.{Data, null}
use Rattle.spec_api.specs.declared.kinds.Kind.TheVariants.{ConfigMap, Pod, ReplicaSet, Deployment}
use Rattle.spec_api.specs.Keys.{Key}
use Rattle.spec_api.specs.Values.{data_of}
use Rattle.spec_client_go.specs.declared.controller.Controller.TheVariants as controller
use Rattle.spec_client_go.specs.Commands.{create, update, update_status, delete}
use Rattle.spec_sim.specs.Clusters.{restart, request, moves}
use Rattle.spec_sim.specs.Moves.{publish}
use Rattle.spec_sim.specs.ControlPlanes.{in_cluster, handle, works, tick}
use Rattle.spec_sim.specs.Managers.{take, look, ask_satisfied, read_live, expect, issue, finish, delivered, answer_lost, dropped}
use Rattle.spec_sim.specs.Outcomes.{handled, took, looked, satisfied, read, expected, issued, finished, time, no_step}
use Rattle.spec_sim.specs.ControlPlaneOutcomeTexts.{outcome_text}
use Rattle.spec_sim.specs.ControlPlaneStepLines.{step_of_line}
use Rattle.spec_sim.specs.Turns.{accepted, refused, lost}

-- an action with the number of a worker, and what it is of
abbrev pub ActionsAreRead : Type 0
ActionsAreRead =
    (step_of_line (codes "take 0") ≡ Some (works 0 take)) × (step_of_line (codes "look 01 pods") ≡ Some (works 1 (look Pod))) × (step_of_line (codes "satisfied 2") ≡ Some (works 2 ask_satisfied))
    × (step_of_line (codes "read 3") ≡ Some (works 3 read_live)) × (step_of_line (codes "expect 4") ≡ Some (works 4 expect)) × (step_of_line (codes "issue 5") ≡ Some (works 5 (issue delivered)))
    × (step_of_line (codes "issue 6 lost") ≡ Some (works 6 (issue answer_lost))) × (step_of_line (codes "issue 7 dropped") ≡ Some (works 7 (issue dropped)))
    × (step_of_line (codes "finish 999999999") ≡ Some (works 999999999 finish)) × (step_of_line (codes "handle deployments") ≡ Some (handle Deployment))
    × (step_of_line (codes "tick 5") ≡ Some (tick 5)) × (step_of_line (codes "restart") ≡ Some (in_cluster restart)) × (step_of_line (codes "publish pods") ≡ Some (in_cluster (moves Pod publish)))
    × (step_of_line (codes "request take 0") ≡ Some (in_cluster (request (codes "take 0"))))

-- what has no form of a step
abbrev pub OthersAreNot : Type 0
OthersAreNot =
    (step_of_line (codes "take") ≡ None) × (step_of_line (codes "take 0 ") ≡ None) × (step_of_line (codes "take x") ≡ None) × (step_of_line (codes "take 0000000000") ≡ None) × (step_of_line (codes "look 0") ≡ None)
    × (step_of_line (codes "look 0 nodes") ≡ None) × (step_of_line (codes "look pods 0") ≡ None) × (step_of_line (codes "issue 0 whole") ≡ None) × (step_of_line (codes "finish 0 lost") ≡ None)
    × (step_of_line (codes "handle") ≡ None) × (step_of_line (codes "handle 0") ≡ None) × (step_of_line (codes "tick -1") ≡ None) × (step_of_line (codes "tick") ≡ None)

abbrev web : Key
web = record { kind = ReplicaSet; namespace = codes "default"; name = codes "web" }

abbrev named : Data
named = unwrap_or (data_of (codes "{\"metadata\":{\"name\":\"web-1\"}}")) null

abbrev generated : Data
generated = unwrap_or (data_of (codes "{\"metadata\":{\"generateName\":\"web-\"}}")) null

abbrev line : List ℕ → List ℕ
line t = t ++ 10 ∷ []

-- a word, the worker's number, and what it did
abbrev pub OutcomesAreTold : Type 0
OutcomesAreTold =
    (outcome_text no_step ≡ line (codes "no step")) × (outcome_text (handled Pod 3) ≡ line (codes "handled pods 3"))
    × (outcome_text (took 0 (Some (record { controller = controller.ReplicaSet; key = web }))) ≡ line (codes "took 0 rs replicasets/default/web"))
    × (outcome_text (took 1 (Some (record { controller = controller.Deployment; key = web }))) ≡ line (codes "took 1 deploy replicasets/default/web"))
    × (outcome_text (took 2 (Some (record { controller = controller.Collector; key = web }))) ≡ line (codes "took 2 gc replicasets/default/web")) × (outcome_text (took 3 None) ≡ line (codes "took 3 none"))
    × (outcome_text (looked 0 ConfigMap 7) ≡ line (codes "looked 0 configmaps 7")) × (outcome_text (satisfied 0 true) ≡ line (codes "satisfied 0 yes"))
    × (outcome_text (satisfied 0 false) ≡ line (codes "satisfied 0 no")) × (outcome_text (read 0 web (Some (codes "5"))) ≡ line (codes "read 0 replicasets/default/web 5"))
    × (outcome_text (read 0 web None) ≡ line (codes "read 0 replicasets/default/web absent")) × (outcome_text (expected 0 2 1) ≡ line (codes "expected 0 2 1"))
    × (outcome_text (issued 0 (create Pod (codes "default") generated) (accepted 201 null)) ≡ line (codes "issued 0 create pods/default/web- 201"))
    × (outcome_text (issued 0 (create Pod (codes "default") named) (refused 409)) ≡ line (codes "issued 0 create pods/default/web-1 409"))
    × (outcome_text (issued 0 (update web named) lost) ≡ line (codes "issued 0 update replicasets/default/web lost"))
    × (outcome_text (issued 0 (update_status web named) (accepted 200 null)) ≡ line (codes "issued 0 status replicasets/default/web 200"))
    × (outcome_text (issued 0 (delete web None None None) (accepted 200 null)) ≡ line (codes "issued 0 delete replicasets/default/web 200"))
    × (outcome_text (finished 0 true) ≡ line (codes "finished 0 done")) × (outcome_text (finished 0 false) ≡ line (codes "finished 0 retry")) × (outcome_text (time 5) ≡ line (codes "time 5"))
