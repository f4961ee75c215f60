-- Worked turns, computed from the definitions: what is told of a worker's steps, whatever the board.
use Rattle.std.specs.Prelude.{◌≡◌, ℕ, List, [], ◌∷◌, ◌++◌, map, flat_map, Bool, true, false, Some, None, codes}
use Rattle.spec_api.specs.declared.kinds.Kind.TheVariants.{Pod, ReplicaSet}
use Rattle.spec_client_go.specs.declared.controller.Controller.TheVariants as controller
use Rattle.spec_client_go.specs.WorkQueues.{WorkKey}
use Rattle.spec_client_go.specs.Boards.{Board}
use Rattle.spec_sim.specs.Clusters.{follower}
use Rattle.spec_sim.specs.declared.initial_syncs.InitialSync.TheVariants as sync
use Rattle.spec_sim.specs.ControlPlanes.{ControlPlane, opened, run}
use Rattle.spec_sim.specs.ControlPlaneStepLines.{step_asked, outcome_lines}
use Rattle.spec_sim.specs.Turns.{Turn, begun, looked, satisfied, with_sight}

abbrev text : List (List ℕ) → List ℕ
text ls = flat_map (λ l. l ++ 10 ∷ []) ls

-- a ReplicaSet of two pods was created, and all kinds are published
abbrev published : ControlPlane
published =
    run (opened 16 2 sync.List)
    (map step_asked
    (codes "request POST /apis/apps/v1/namespaces/default/replicasets {\"metadata\":{\"name\":\"web\"},\"spec\":{\"replicas\":2,\"selector\":{\"matchLabels\":{\"app\":\"web\"}},\"template\":{\"metadata\":{\"labels\":{\"app\":\"web\"}},\"spec\":{}}}}"
    ∷ codes "list configmaps" ∷ codes "publish configmaps" ∷ codes "list pods" ∷ codes "publish pods" ∷ codes "list replicasets" ∷ codes "publish replicasets" ∷ codes "list deployments"
    ∷ codes "publish deployments" ∷ []))

abbrev web : WorkKey
web = record { controller = controller.ReplicaSet; key = record { kind = ReplicaSet; namespace = codes "default"; name = codes "web" } }

-- the first worker is in this turn, the second in none
abbrev in_turn : Turn → Board → ControlPlane
in_turn t b = record published { manager = record { board = b; turns = Some t ∷ None ∷ []; issued = [] } }

-- the set was looked at, and it was answered whether all pods that were expected have been seen
abbrev answered : Bool → Turn
answered met = with_sight (satisfied met) (with_sight (looked ReplicaSet (follower ReplicaSet published.cluster).informer.published) (begun web))

-- no step is open but the next one: the set is looked at before its pods, and a key is in one worker's hands
abbrev pub SetsAreLookedAtFirst : Type 0
SetsAreLookedAtFirst =
    (b : Board)
    → outcome_lines (in_turn (begun web) b)
    (codes "finish 1" ∷ codes "look 1 pods" ∷ codes "finish 2" ∷ codes "take 0" ∷ codes "look 0 pods" ∷ codes "satisfied 0" ∷ codes "read 0" ∷ codes "expect 0" ∷ codes "issue 0" ∷ codes "finish 0"
    ∷ codes "handle configmaps" ∷ codes "look 0 replicasets" ∷ codes "look 0 replicasets" ∷ codes "look 0 pods" ∷ [])
    ≡ text
    (codes "no step" ∷ codes "no step" ∷ codes "no step" ∷ codes "no step" ∷ codes "no step" ∷ codes "no step" ∷ codes "no step" ∷ codes "no step" ∷ codes "no step" ∷ codes "no step" ∷ codes "no step"
    ∷ codes "looked 0 replicasets 2" ∷ codes "no step" ∷ codes "no step" ∷ [])

-- once all that was expected has been seen, the pods are looked at, two are expected, and then created, and the status is updated
abbrev pub PodsAreCreated : Type 0
PodsAreCreated =
    (b : Board)
    → outcome_lines (in_turn (answered true) b)
    (codes "issue 0" ∷ codes "look 0 pods" ∷ codes "read 0" ∷ codes "issue 0" ∷ codes "finish 0" ∷ codes "expect 0" ∷ codes "expect 0" ∷ codes "issue 0" ∷ codes "issue 0" ∷ codes "issue 0" ∷ codes "issue 0"
    ∷ codes "finish 0" ∷ codes "finish 0" ∷ [])
    ≡ text
    (codes "no step" ∷ codes "looked 0 pods 2" ∷ codes "no step" ∷ codes "no step" ∷ codes "no step" ∷ codes "expected 0 2 0" ∷ codes "no step" ∷ codes "issued 0 create pods/default/web- 201"
    ∷ codes "issued 0 create pods/default/web- 201" ∷ codes "issued 0 status replicasets/default/web 200" ∷ codes "no step" ∷ codes "finished 0 done" ∷ codes "no step" ∷ [])

-- until then none is created
abbrev pub ExpectedPodsAreAwaited : Type 0
ExpectedPodsAreAwaited =
    (b : Board)
    → outcome_lines (in_turn (answered false) b) (codes "look 0 pods" ∷ codes "expect 0" ∷ codes "issue 0" ∷ codes "finish 0" ∷ [])
    ≡ text (codes "looked 0 pods 2" ∷ codes "no step" ∷ codes "issued 0 status replicasets/default/web 200" ∷ codes "finished 0 done" ∷ [])

-- after an answer that was lost, or a command that was dropped, nothing more is issued
abbrev pub LostAnswersEndTurns : Type 0
LostAnswersEndTurns =
    (b : Board)
    → (outcome_lines (in_turn (answered true) b) (codes "look 0 pods" ∷ codes "expect 0" ∷ codes "issue 0 lost" ∷ codes "issue 0" ∷ codes "finish 0" ∷ [])
    ≡ text (codes "looked 0 pods 2" ∷ codes "expected 0 2 0" ∷ codes "issued 0 create pods/default/web- lost" ∷ codes "no step" ∷ codes "finished 0 retry" ∷ []))
    × (outcome_lines (in_turn (answered true) b) (codes "look 0 pods" ∷ codes "expect 0" ∷ codes "issue 0 dropped" ∷ codes "issue 0" ∷ codes "finish 0" ∷ [])
    ≡ text (codes "looked 0 pods 2" ∷ codes "expected 0 2 0" ∷ codes "issued 0 create pods/default/web- lost" ∷ codes "no step" ∷ codes "finished 0 retry" ∷ []))

-- ---- a create whose answer was lost

abbrev after : ControlPlane → List (List ℕ) → ControlPlane
after p ts = run p (map step_asked ts)

-- the first worker is in this turn, whatever the board
abbrev resumed : Turn → Board → ControlPlane → ControlPlane
resumed t b p = record p { manager = record { board = b; turns = Some t ∷ None ∷ []; issued = [] } }

abbrev issued_lost : Board → ControlPlane
issued_lost b = after (in_turn (answered true) b) (codes "look 0 pods" ∷ codes "expect 0" ∷ codes "issue 0 lost" ∷ codes "finish 0" ∷ [])

abbrev reported : Board → ControlPlane
reported b = after (resumed (answered false) b (issued_lost b)) (codes "look 0 pods" ∷ codes "issue 0" ∷ codes "finish 0" ∷ [])

abbrev followed : Board → ControlPlane
followed b = after (reported b) (codes "watch pods" ∷ codes "send pods 1" ∷ codes "deliver pods all" ∷ codes "publish pods" ∷ codes "handle pods" ∷ [])

-- its pod is there and is not expected twice: while it was not seen none is created, and once it is published one is missing; an update at a
-- version that was replaced meanwhile is refused
abbrev pub LostPodsAreSeen : Type 0
LostPodsAreSeen =
    (b : Board)
    → (outcome_lines (resumed (answered false) b (issued_lost b)) (codes "look 0 pods" ∷ codes "expect 0" ∷ codes "issue 0" ∷ codes "finish 0" ∷ [])
    ≡ text (codes "looked 0 pods 2" ∷ codes "no step" ∷ codes "issued 0 status replicasets/default/web 200" ∷ codes "finished 0 done" ∷ []))
    × (outcome_lines (reported b) (codes "watch pods" ∷ codes "send pods 1" ∷ codes "deliver pods all" ∷ codes "publish pods" ∷ codes "handle pods" ∷ [])
    ≡ text (codes "opened pods 2" ∷ codes "sent pods 1" ∷ codes "fed pods 3" ∷ codes "published pods 3 1" ∷ codes "handled pods 3" ∷ []))
    × (outcome_lines (resumed (answered true) b (followed b)) (codes "look 0 pods" ∷ codes "expect 0" ∷ codes "issue 0" ∷ codes "issue 0" ∷ codes "issue 0" ∷ codes "finish 0" ∷ [])
    ≡ text
    (codes "looked 0 pods 3" ∷ codes "expected 0 1 0" ∷ codes "issued 0 create pods/default/web- 201" ∷ codes "issued 0 status replicasets/default/web 409" ∷ codes "no step" ∷ codes "finished 0 retry" ∷ []))

-- ---- a pod whose owner is gone

abbrev orphaned : ControlPlane
orphaned =
    after (opened 16 1 sync.List)
    (codes "request POST /apis/apps/v1/namespaces/default/replicasets {\"metadata\":{\"name\":\"web\"},\"spec\":{\"selector\":{\"matchLabels\":{\"app\":\"web\"}},\"template\":{\"metadata\":{\"labels\":{\"app\":\"web\"}},\"spec\":{}}}}"
    ∷ codes "request POST /api/v1/namespaces/default/pods {\"metadata\":{\"name\":\"p\",\"ownerReferences\":[{\"apiVersion\":\"apps/v1\",\"kind\":\"ReplicaSet\",\"name\":\"web\",\"uid\":\"00000000-0000-8000-8000-000000000002\"}]},\"spec\":{}}"
    ∷ codes "request DELETE /apis/apps/v1/namespaces/default/replicasets/web" ∷ codes "list configmaps" ∷ codes "publish configmaps" ∷ codes "list pods" ∷ codes "publish pods"
    ∷ codes "list replicasets" ∷ codes "publish replicasets" ∷ codes "list deployments" ∷ codes "publish deployments" ∷ [])

abbrev pod : WorkKey
pod = record { controller = controller.Collector; key = record { kind = Pod; namespace = codes "default"; name = codes "p" } }

-- the collector looks at all kinds, reads the pod and then its owner, finds it gone, and deletes the pod
abbrev pub OrphansAreCollected : Type 0
OrphansAreCollected =
    (b : Board)
    → outcome_lines (resumed (begun pod) b orphaned)
    (codes "read 0" ∷ codes "look 0 configmaps" ∷ codes "look 0 replicasets" ∷ codes "look 0 pods" ∷ codes "satisfied 0" ∷ codes "look 0 replicasets" ∷ codes "look 0 deployments" ∷ codes "issue 0"
    ∷ codes "read 0" ∷ codes "issue 0" ∷ codes "read 0" ∷ codes "read 0" ∷ codes "expect 0" ∷ codes "issue 0" ∷ codes "issue 0" ∷ codes "finish 0" ∷ [])
    ≡ text
    (codes "no step" ∷ codes "looked 0 configmaps 4" ∷ codes "no step" ∷ codes "looked 0 pods 4" ∷ codes "no step" ∷ codes "looked 0 replicasets 4" ∷ codes "looked 0 deployments 4" ∷ codes "no step"
    ∷ codes "read 0 pods/default/p 3" ∷ codes "no step" ∷ codes "read 0 replicasets/default/web absent" ∷ codes "no step" ∷ codes "no step" ∷ codes "issued 0 delete pods/default/p 200" ∷ codes "no step"
    ∷ codes "finished 0 done" ∷ [])

-- ---- what a change owes

-- the change of a new set owes two keys: its controller's, and the collector's
abbrev pub ChangesOweKeys : Type 0
ChangesOweKeys =
    (b : Board)
    → outcome_lines (in_turn (begun web) b) (codes "handle replicasets" ∷ codes "handle replicasets" ∷ codes "handle pods" ∷ [])
    ≡ text (codes "handled replicasets 2" ∷ codes "no step" ∷ codes "no step" ∷ [])
