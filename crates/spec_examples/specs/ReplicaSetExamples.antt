-- Worked plans of ReplicaSets, computed from the definitions: what is commanded for the set `web`.
use Rattle.std.specs.Prelude.{◌≡◌, ℕ, pos, negsuc, List, [], ◌∷◌, ◌++◌, map, filter_map, codes, unwrap_or, Bool, true, false, Option, Some, None, option_map}
use Rattle.serde_json.specs.Data.{Data, null}
use Rattle.serde_json.specs.Find.{get}
use Rattle.serde_json.specs.Read.{read}
use Rattle.serde_json.specs.Written.{compact_text}
use Rattle.spec_api.specs.declared.kinds.Kind.{Kind}
use Rattle.spec_api.specs.declared.kinds.Kind.TheVariants.{Pod, ReplicaSet}
use Rattle.spec_api.specs.History.{Entries}
use Rattle.spec_api.specs.Keys.{Key}
use Rattle.spec_api.specs.Metadata.{name, namespace}
use Rattle.spec_client_go.specs.Commands.{Command, create, update, update_status, delete}
use Rattle.spec_client_go.specs.Hands.{Hand, Read}
use Rattle.spec_reconcile.specs.PodRanks.{cost}
use Rattle.spec_reconcile.specs.ReplicaSets.{plan, asks}

-- ---- what is looked at

-- the set, with so many replicas, this status, and what else its metadata says
abbrev pub web_with : List ℕ → List ℕ → List ℕ → List ℕ
web_with more replicas status =
    codes "{\"apiVersion\":\"apps/v1\",\"kind\":\"ReplicaSet\",\"metadata\":{"
    ++ more ++ codes "\"generation\":7,\"name\":\"web\",\"namespace\":\"default\",\"resourceVersion\":\"2\",\"uid\":\"u-web\"},\"spec\":{\"replicas\":"
    ++ replicas
    ++ codes ",\"selector\":{\"matchLabels\":{\"app\":\"web\"}},\"template\":{\"metadata\":{\"annotations\":{\"a\":\"1\"},\"finalizers\":[\"example.com/f\"],\"labels\":{\"app\":\"web\"},\"name\":\"not copied\"},\"spec\":{\"image\":\"v1\"}}},\"status\":"
    ++ status ++ codes "}"

abbrev pub web : List ℕ → List ℕ
web replicas = web_with [] replicas (codes "{\"fullyLabeledReplicas\":9,\"replicas\":0}")

-- a pod with these labels, what else its metadata says, its spec and its status
abbrev pub pod_with : List ℕ → List ℕ → List ℕ → List ℕ → List ℕ → List ℕ
pod_with name app more spec status =
    codes "{\"metadata\":{\"labels\":{\"app\":\"" ++ app ++ codes "\"}," ++ more
    ++ codes "\"name\":\"" ++ name ++ codes "\",\"namespace\":\"default\",\"resourceVersion\":\"5\",\"uid\":\"u-" ++ name
    ++ codes "\"},\"spec\":" ++ spec ++ codes ",\"status\":" ++ status ++ codes "}"

-- its reference to the set as the controller
abbrev pub of_web : List ℕ
of_web =
    codes "\"ownerReferences\":[{\"apiVersion\":\"apps/v1\",\"blockOwnerDeletion\":true,\"controller\":true,\"kind\":\"ReplicaSet\",\"name\":\"web\",\"uid\":\"u-web\"}],"

-- on a node, and running
abbrev pub on : List ℕ → List ℕ
on node = codes "{\"nodeName\":\"" ++ node ++ codes "\"}"

abbrev pub in_phase : List ℕ → List ℕ
in_phase phase = codes "{\"phase\":\"" ++ phase ++ codes "\"}"

abbrev pub ready_in_phase : List ℕ → List ℕ
ready_in_phase phase = codes "{\"conditions\":[{\"status\":\"True\",\"type\":\"Initialized\"},{\"status\":\"True\",\"type\":\"Ready\"}],\"phase\":\"" ++ phase ++ codes "\"}"

abbrev pub ready : List ℕ
ready = ready_in_phase (codes "Running")

-- a pod of the set: on a node, and this status
abbrev pub own : List ℕ → List ℕ → List ℕ → List ℕ
own name node status = pod_with name (codes "web") of_web (on node) status

-- one that says what its deletion costs, and when it was created
abbrev pub own_at : List ℕ → List ℕ → List ℕ → List ℕ → List ℕ → List ℕ
own_at name node status cost created =
    pod_with name (codes "web")
    (codes "\"annotations\":{\"controller.kubernetes.io/pod-deletion-cost\":\"" ++ cost ++ codes "\"},\"creationTimestamp\":\"2026-01-01T00:00:0" ++ created ++ codes "Z\"," ++ of_web) (on node) status

abbrev orphan : List ℕ
orphan = pod_with (codes "orphan") (codes "web") [] (on (codes "n")) ready

abbrev pub read_as : List ℕ → Data
read_as t = unwrap_or (read t) null

abbrev pub named : Kind → Data → Key × Data
named k d = (record { kind = k; namespace = unwrap_or (namespace d) []; name = unwrap_or (name d) [] }, d)

abbrev pub all_named : Kind → List (List ℕ) → Entries
all_named k ts = map (λ t. named k (read_as t)) ts

abbrev pub web_key : Key
web_key = record { kind = ReplicaSet; namespace = codes "default"; name = codes "web" }

abbrev pub hand : List (List ℕ) → List (List ℕ) → Bool → List Read → Hand
hand sets pods is_satisfied reads =
    record {
      key = web_key;
      looks = record { config_maps = []; pods = all_named Pod pods; replica_sets = all_named ReplicaSet sets; deployments = [] };
      is_satisfied = is_satisfied;
      reads = reads;
    }

-- the set and its pods; all that was expected was seen
abbrev pub seen : List ℕ → List (List ℕ) → Hand
seen set pods = hand (set ∷ []) pods true []

abbrev pub live : List ℕ → List Read
live t = record { key = web_key; found = Some (read_as t) } ∷ []

-- ---- what is commanded

abbrev deleted_by : Command → Option (List ℕ)
deleted_by (delete k u v p) = Some (k.name ++ codes " " ++ unwrap_or u [])
deleted_by c = None

abbrev created_by : Command → Option (List ℕ)
created_by (create k ns d) = Some (ns ++ codes " " ++ compact_text d)
created_by c = None

abbrev updated_by : Command → Option (List ℕ)
updated_by (update k d) = Some (k.name ++ codes " " ++ compact_text d)
updated_by c = None

abbrev reported_by : Command → Option (List ℕ)
reported_by (update_status k d) = Some (unwrap_or (option_map compact_text (get (codes "status") d)) [])
reported_by c = None

abbrev pub deleted : Hand → List (List ℕ)
deleted h = filter_map deleted_by (plan h)

abbrev pub created : Hand → List (List ℕ)
created h = filter_map created_by (plan h)

abbrev pub updated : Hand → List (List ℕ)
updated h = filter_map updated_by (plan h)

abbrev pub reported : Hand → List (List ℕ)
reported h = filter_map reported_by (plan h)

-- ---- which pods are deleted

-- p1 is on no node, p2 is not ready, p3 and p4 are alike but for their nodes and names
abbrev pub four : List (List ℕ)
four = pod_with (codes "p1") (codes "web") of_web (codes "{}") ready ∷ own (codes "p2") (codes "n2") (in_phase (codes "Running")) ∷ own (codes "p3") (codes "n3") ready ∷ own (codes "p4") (codes "n4") ready ∷ []

-- of three and one too many, the one on no node goes
abbrev pub UnplacedGoFirst : Type 0
UnplacedGoFirst =
    deleted (seen (web (codes "3")) four) ≡ codes "p1 u-p1" ∷ []

-- then the one that is not ready
abbrev pub UnreadyGoNext : Type 0
UnreadyGoNext =
    deleted (seen (web (codes "2")) four) ≡ codes "p1 u-p1" ∷ codes "p2 u-p2" ∷ []

-- of two that are alike, the first by name
abbrev pub NamesDecide : Type 0
NamesDecide =
    deleted (seen (web (codes "1")) (own (codes "p3") (codes "n3") ready ∷ own (codes "p4") (codes "n4") ready ∷ [])) ≡ codes "p3 u-p3" ∷ []

-- where none is wanted, all go
abbrev pub AllGo : Type 0
AllGo =
    deleted (seen (web (codes "0")) four) ≡ codes "p1 u-p1" ∷ codes "p2 u-p2" ∷ codes "p3 u-p3" ∷ codes "p4 u-p4" ∷ []

-- one on no node goes before one that is only pending; an empty name is no node
abbrev pub NodesComeFirst : Type 0
NodesComeFirst =
    (deleted (seen (web (codes "1")) (own (codes "a") (codes "n") (in_phase (codes "Pending")) ∷ pod_with (codes "p1") (codes "web") of_web (codes "{}") ready ∷ [])) ≡ codes "p1 u-p1" ∷ [])
    × (deleted (seen (web (codes "1")) (own (codes "a") (codes "n") (in_phase (codes "Pending")) ∷ own (codes "b") [] ready ∷ [])) ≡ codes "b u-b" ∷ [])

-- by phase: any other, Unknown, Running
abbrev pub PhasesGoOneByOne : Type 0
PhasesGoOneByOne =
    deleted (seen (web (codes "0")) (own (codes "a") (codes "n1") ready ∷ own (codes "b") (codes "n2") (ready_in_phase (codes "Unknown")) ∷ own (codes "c") (codes "n3") (ready_in_phase (codes "Odd")) ∷ [])) ≡ codes "c u-c" ∷ codes "b u-b" ∷ codes "a u-a" ∷ []

-- the phase before whether it is ready
abbrev pub PhasesBeforeReadiness : Type 0
PhasesBeforeReadiness =
    deleted (seen (web (codes "1")) (own (codes "a") (codes "n1") (in_phase (codes "Running")) ∷ own (codes "b") (codes "n2") (ready_in_phase (codes "Unknown")) ∷ [])) ≡ codes "b u-b" ∷ []

-- whether it is ready before the cost
abbrev pub ReadinessBeforeCosts : Type 0
ReadinessBeforeCosts =
    deleted (seen (web (codes "1")) (own_at (codes "a") (codes "n1") ready (codes "-5") (codes "1") ∷ own_at (codes "b") (codes "n2") (in_phase (codes "Running")) (codes "5") (codes "1") ∷ [])) ≡ codes "b u-b" ∷ []

-- the lower cost goes first, then one of the fuller node, then the later
abbrev pub CheapGoFirst : Type 0
CheapGoFirst =
    deleted (seen (web (codes "0")) (own_at (codes "a") (codes "n") ready (codes "0") (codes "1") ∷ own_at (codes "b") (codes "m") ready (codes "0") (codes "1") ∷ own_at (codes "c") (codes "m") ready (codes "0") (codes "2") ∷ own_at (codes "d") (codes "k") ready (codes "-3") (codes "0") ∷ own_at (codes "e") (codes "k") ready (codes "3") (codes "9") ∷ [])) ≡ codes "d u-d" ∷ codes "c u-c" ∷ codes "b u-b" ∷ codes "a u-a" ∷ codes "e u-e" ∷ []

-- a cost is a signed decimal number of 32 bits, and any other text costs nothing
abbrev pub CostsAreRead : Type 0
CostsAreRead =
    (cost (codes "5") ≡ pos 5)
    × (cost (codes "-5") ≡ negsuc 4)
    × (cost (codes "007") ≡ pos 7)
    × (cost (codes "2147483647") ≡ pos 2147483647)
    × (cost (codes "2147483648") ≡ pos 0)
    × (cost (codes "-2147483648") ≡ negsuc 2147483647)
    × (cost (codes "-2147483649") ≡ pos 0)
    × (cost (codes "+5") ≡ pos 0)
    × (cost (codes "-") ≡ pos 0)
    × (cost (codes "") ≡ pos 0)
    × (cost (codes "1.5") ≡ pos 0)
    × (cost (codes " 5") ≡ pos 0)

-- ---- which pods are its own

-- finished, failed, being deleted
abbrev pub inactive : List (List ℕ)
inactive = own (codes "failed") (codes "n") (in_phase (codes "Failed")) ∷ pod_with (codes "going") (codes "web") (codes "\"deletionTimestamp\":\"2026-01-01T00:00:09Z\"," ++ of_web) (on (codes "n")) ready ∷ own (codes "over") (codes "n") (in_phase (codes "Succeeded")) ∷ []

-- the pod that is made of the template
abbrev pub new_pod : List ℕ
new_pod =
    codes "default {\"metadata\":{\"annotations\":{\"a\":\"1\"},\"finalizers\":[\"example.com/f\"],\"generateName\":\"web-\",\"labels\":{\"app\":\"web\"},\"ownerReferences\":[{\"apiVersion\":\"apps/v1\",\"blockOwnerDeletion\":true,\"controller\":true,\"kind\":\"ReplicaSet\",\"name\":\"web\",\"uid\":\"u-web\"}]},\"spec\":{\"image\":\"v1\"}}"

-- two that are missing are created
abbrev pub MissingAreCreated : Type 0
MissingAreCreated =
    created (seen (web (codes "3")) (own (codes "p3") (codes "n3") ready ∷ [])) ≡ new_pod ∷ new_pod ∷ []

-- those that are finished, have failed or are being deleted do not count, and are left alone
abbrev pub InactiveDoNotCount : Type 0
InactiveDoNotCount =
    (created (seen (web (codes "1")) inactive) ≡ new_pod ∷ []) × (deleted (seen (web (codes "0")) inactive) ≡ []) × (updated (seen (web (codes "1")) inactive) ≡ [])

-- a pod of another namespace that names the set's uid
abbrev pub elsewhere : List ℕ
elsewhere =
    codes "{\"metadata\":{\"labels\":{\"app\":\"web\"},\"name\":\"p\",\"namespace\":\"other\",\"ownerReferences\":[{\"apiVersion\":\"apps/v1\",\"controller\":true,\"kind\":\"ReplicaSet\",\"name\":\"web\",\"uid\":\"u-web\"}],\"resourceVersion\":\"5\",\"uid\":\"u-p\"},\"spec\":{\"nodeName\":\"n\"},\"status\":{\"phase\":\"Running\"}}"

-- nor do those of another namespace
abbrev pub NamespacesDiffer : Type 0
NamespacesDiffer =
    (created (seen (web (codes "1")) (elsewhere ∷ [])) ≡ new_pod ∷ []) × (deleted (seen (web (codes "0")) (elsewhere ∷ [])) ≡ [])

-- nor one that another set of that name owns
abbrev pub UidsDecide : Type 0
UidsDecide =
    (created (seen (web (codes "1")) (pod_with (codes "p") (codes "web") (codes "\"ownerReferences\":[{\"apiVersion\":\"apps/v1\",\"controller\":true,\"kind\":\"ReplicaSet\",\"name\":\"web\",\"uid\":\"u-other\"}],") (on (codes "n")) ready ∷ [])) ≡ new_pod ∷ [])
    × (updated (hand (web (codes "1") ∷ []) (pod_with (codes "p") (codes "web") (codes "\"ownerReferences\":[{\"apiVersion\":\"apps/v1\",\"controller\":true,\"kind\":\"ReplicaSet\",\"name\":\"web\",\"uid\":\"u-other\"}],") (on (codes "n")) ready ∷ []) true (live (web (codes "1")))) ≡ [])

-- ---- claims

-- one that does not match is released, and one without a controller that matches is adopted and counts
abbrev pub StraysGoOrphansCome : Type 0
StraysGoOrphansCome =
    (updated (hand (web (codes "1") ∷ []) (orphan ∷ pod_with (codes "stray") (codes "db") of_web (on (codes "n")) ready ∷ []) true (live (web (codes "1"))))
    ≡ codes "orphan {\"metadata\":{\"labels\":{\"app\":\"web\"},\"name\":\"orphan\",\"namespace\":\"default\",\"ownerReferences\":[{\"apiVersion\":\"apps/v1\",\"blockOwnerDeletion\":true,\"controller\":true,\"kind\":\"ReplicaSet\",\"name\":\"web\",\"uid\":\"u-web\"}],\"resourceVersion\":\"5\",\"uid\":\"u-orphan\"},\"spec\":{\"nodeName\":\"n\"},\"status\":{\"conditions\":[{\"status\":\"True\",\"type\":\"Initialized\"},{\"status\":\"True\",\"type\":\"Ready\"}],\"phase\":\"Running\"}}"
    ∷ codes "stray {\"metadata\":{\"labels\":{\"app\":\"db\"},\"name\":\"stray\",\"namespace\":\"default\",\"ownerReferences\":[],\"resourceVersion\":\"5\",\"uid\":\"u-stray\"},\"spec\":{\"nodeName\":\"n\"},\"status\":{\"conditions\":[{\"status\":\"True\",\"type\":\"Initialized\"},{\"status\":\"True\",\"type\":\"Ready\"}],\"phase\":\"Running\"}}" ∷ [])
    × (created (hand (web (codes "1") ∷ []) (orphan ∷ pod_with (codes "stray") (codes "db") of_web (on (codes "n")) ready ∷ []) true (live (web (codes "1")))) ≡ [])

-- its other references stay; one that is no controller leaves it an orphan, and the new one is the last
abbrev pub OtherReferencesStay : Type 0
OtherReferencesStay =
    (updated (seen (web (codes "1")) (pod_with (codes "p") (codes "db") (codes "\"ownerReferences\":[{\"apiVersion\":\"apps/v1\",\"blockOwnerDeletion\":true,\"controller\":true,\"kind\":\"ReplicaSet\",\"name\":\"web\",\"uid\":\"u-web\"},{\"apiVersion\":\"v1\",\"kind\":\"ConfigMap\",\"name\":\"c\",\"uid\":\"u-c\"}],") (on (codes "n")) ready ∷ []))
    ≡ codes "p {\"metadata\":{\"labels\":{\"app\":\"db\"},\"name\":\"p\",\"namespace\":\"default\",\"ownerReferences\":[{\"apiVersion\":\"v1\",\"kind\":\"ConfigMap\",\"name\":\"c\",\"uid\":\"u-c\"}],\"resourceVersion\":\"5\",\"uid\":\"u-p\"},\"spec\":{\"nodeName\":\"n\"},\"status\":{\"conditions\":[{\"status\":\"True\",\"type\":\"Initialized\"},{\"status\":\"True\",\"type\":\"Ready\"}],\"phase\":\"Running\"}}" ∷ [])
    × (updated (hand (web (codes "1") ∷ []) (pod_with (codes "p") (codes "web") (codes "\"ownerReferences\":[{\"apiVersion\":\"v1\",\"kind\":\"ConfigMap\",\"name\":\"c\",\"uid\":\"u-c\"}],") (on (codes "n")) ready ∷ []) true (live (web (codes "1"))))
    ≡ codes "p {\"metadata\":{\"labels\":{\"app\":\"web\"},\"name\":\"p\",\"namespace\":\"default\",\"ownerReferences\":[{\"apiVersion\":\"v1\",\"kind\":\"ConfigMap\",\"name\":\"c\",\"uid\":\"u-c\"},{\"apiVersion\":\"apps/v1\",\"blockOwnerDeletion\":true,\"controller\":true,\"kind\":\"ReplicaSet\",\"name\":\"web\",\"uid\":\"u-web\"}],\"resourceVersion\":\"5\",\"uid\":\"u-p\"},\"spec\":{\"nodeName\":\"n\"},\"status\":{\"conditions\":[{\"status\":\"True\",\"type\":\"Initialized\"},{\"status\":\"True\",\"type\":\"Ready\"}],\"phase\":\"Running\"}}" ∷ [])

-- none is adopted before the set was read live, where it is being deleted by then, or another has its name
abbrev pub OrphansWait : Type 0
OrphansWait =
    (updated (seen (web (codes "1")) (orphan ∷ [])) ≡ [])
    × (updated (hand (web (codes "1") ∷ []) (orphan ∷ []) true (live (web_with (codes "\"deletionTimestamp\":\"2026-01-01T00:00:09Z\",") (codes "1") (codes "{}")))) ≡ [])
    × (updated (hand (web (codes "1") ∷ []) (orphan ∷ []) true (live (codes "{\"apiVersion\":\"apps/v1\",\"kind\":\"ReplicaSet\",\"metadata\":{\"name\":\"web\",\"namespace\":\"default\",\"resourceVersion\":\"9\",\"uid\":\"u-other\"}}"))) ≡ [])

-- before it adopts, the set is read live, once
abbrev pub OrphansAreAskedFor : Type 0
OrphansAreAskedFor =
    (asks (seen (web (codes "1")) (orphan ∷ [])) ≡ web_key ∷ [])
    × (asks (hand (web (codes "1") ∷ []) (orphan ∷ []) true (live (web (codes "1")))) ≡ [])
    × (asks (seen (web (codes "1")) (own (codes "p3") (codes "n3") ready ∷ inactive)) ≡ [])
    × (asks (seen (web_with (codes "\"deletionTimestamp\":\"2026-01-01T00:00:09Z\",") (codes "1") (codes "{}")) (orphan ∷ [])) ≡ [])

-- ---- the status, and when nothing is done

-- how many there are, how many of them are ready, and of which generation; other members stay
abbrev pub StatusesAreTold : Type 0
StatusesAreTold =
    reported (seen (web (codes "2")) (own (codes "p2") (codes "n2") (in_phase (codes "Running")) ∷ own (codes "p3") (codes "n3") ready ∷ []))
    ≡ codes "{\"availableReplicas\":1,\"fullyLabeledReplicas\":9,\"observedGeneration\":7,\"readyReplicas\":1,\"replicas\":2}" ∷ []

-- where all is well nothing is commanded
abbrev pub AllIsWell : Type 0
AllIsWell =
    plan (seen (web_with [] (codes "1") (codes "{\"availableReplicas\":1,\"observedGeneration\":7,\"readyReplicas\":1,\"replicas\":1}")) (own (codes "p3") (codes "n3") ready ∷ [])) ≡ []

-- nor for a set that is gone
abbrev pub GoneSetsAreLeft : Type 0
GoneSetsAreLeft =
    plan (hand [] (orphan ∷ own (codes "p3") (codes "n3") ready ∷ []) true []) ≡ []

-- while pods are expected none is created or deleted
abbrev pub ExpectedAreAwaited : Type 0
ExpectedAreAwaited =
    (created (hand (web (codes "3") ∷ []) (own (codes "p3") (codes "n3") ready ∷ []) false []) ≡ []) × (deleted (hand (web (codes "0") ∷ []) (own (codes "p3") (codes "n3") ready ∷ []) false []) ≡ [])

-- of a set that is being deleted only the status is updated
abbrev pub DyingSetsAreLeft : Type 0
DyingSetsAreLeft =
    (created (seen (web_with (codes "\"deletionTimestamp\":\"2026-01-01T00:00:09Z\",") (codes "3") (codes "{}")) (orphan ∷ pod_with (codes "stray") (codes "db") of_web (on (codes "n")) ready ∷ [])) ≡ []) × (updated (hand (web_with (codes "\"deletionTimestamp\":\"2026-01-01T00:00:09Z\",") (codes "3") (codes "{}") ∷ []) (orphan ∷ pod_with (codes "stray") (codes "db") of_web (on (codes "n")) ready ∷ []) true (live (web (codes "3")))) ≡ [])
    × (reported (seen (web_with (codes "\"deletionTimestamp\":\"2026-01-01T00:00:09Z\",") (codes "3") (codes "{}")) (own (codes "p3") (codes "n3") ready ∷ []))
    ≡ codes "{\"availableReplicas\":1,\"observedGeneration\":7,\"readyReplicas\":1,\"replicas\":1}" ∷ [])
