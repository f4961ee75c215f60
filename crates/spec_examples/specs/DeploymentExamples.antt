-- Worked plans of Deployments, computed from the definitions: JSON in, and what is commanded, as texts.
use Rattle.std.specs.Prelude.{◌≡◌, ℕ, List, [], ◌∷◌, ◌++◌, map, codes, decimal, true, unwrap_or}
use Rattle.serde_json.specs.Data.{Data, null}
use Rattle.serde_json.specs.Written.{compact_text}
use Rattle.spec_api.specs.declared.kinds.Kind.{Kind}
use Rattle.spec_api.specs.declared.kinds.Kind.TheVariants.{Pod, ReplicaSet, Deployment}
use Rattle.spec_api.specs.Checks.{in_spec, text_or_empty}
use Rattle.spec_api.specs.Keys.{Key}
use Rattle.spec_api.specs.Metadata.{name, version, metadata}
use Rattle.spec_api.specs.Values.{get, data_of}
use Rattle.spec_client_go.specs.Commands.{Command, create, update, update_status, delete}
use Rattle.spec_client_go.specs.Hands.{Hand}
use Rattle.spec_reconcile.specs.Deployments.{plan}

-- ---- objects as texts

-- a number of pods, so many of them ready and so many available
abbrev pub of_pods : ℕ → ℕ → ℕ → List ℕ
of_pods n ready available =
    codes "{\"availableReplicas\":" ++ decimal available ++ codes ",\"observedGeneration\":1,\"readyReplicas\":" ++ decimal ready ++ codes ",\"replicas\":" ++ decimal n ++ codes "}"

abbrev pub all : ℕ → List ℕ
all n = of_pods n n n

-- the Deployment `web` of so many pods of the image `v2`, with further members of its metadata, its spec and its status
abbrev pub web : ℕ → List ℕ → List ℕ → List ℕ → List ℕ
web n more_metadata more_spec status =
    codes "{\"apiVersion\":\"apps/v1\",\"kind\":\"Deployment\",\"metadata\":{\"generation\":1,\"name\":\"web\",\"namespace\":\"default\",\"resourceVersion\":\"5\",\"uid\":\"u-web\""
    ++ more_metadata ++ codes "},\"spec\":{\"replicas\":" ++ decimal n ++ codes ",\"selector\":{\"matchLabels\":{\"app\":\"web\"}},\"template\":{\"metadata\":{\"labels\":{\"app\":\"web\"}},\"spec\":{\"image\":\"v2\"}}"
    ++ more_spec ++ codes "},\"status\":" ++ status ++ codes "}"

abbrev pub quarters : List ℕ
quarters = codes ",\"revisionHistoryLimit\":1,\"strategy\":{\"rollingUpdate\":{\"maxSurge\":\"25%\",\"maxUnavailable\":\"25%\"},\"type\":\"RollingUpdate\"}"

abbrev pub recreating : List ℕ
recreating = codes ",\"revisionHistoryLimit\":10,\"strategy\":{\"type\":\"Recreate\"}"

abbrev pub rolling : ℕ → List ℕ
rolling n = web n [] quarters (codes "{}")

-- a set of an owner, created on a day of January: a revision, a template's labels and image, how many pods it is to have, and its status
abbrev pub set_of : List ℕ → List ℕ → ℕ → ℕ → List ℕ → List ℕ → ℕ → List ℕ → List ℕ
set_of owner name day revision labels image n status =
    codes "{\"apiVersion\":\"apps/v1\",\"kind\":\"ReplicaSet\",\"metadata\":{\"annotations\":{\"deployment.kubernetes.io/revision\":\"" ++ decimal revision
    ++ codes "\"},\"creationTimestamp\":\"2026-01-" ++ decimal day ++ codes "T00:00:00Z\",\"generation\":1,\"name\":\"" ++ name
    ++ codes "\",\"namespace\":\"default\",\"ownerReferences\":[{\"controller\":true,\"uid\":\"" ++ owner ++ codes "\"}],\"resourceVersion\":\"9\",\"uid\":\"u-" ++ name
    ++ codes "\"},\"spec\":{\"replicas\":" ++ decimal n ++ codes ",\"template\":{\"metadata\":{\"labels\":" ++ labels ++ codes "},\"spec\":{\"image\":\"" ++ image ++ codes "\"}}},\"status\":" ++ status ++ codes "}"

abbrev pub set : List ℕ → ℕ → ℕ → List ℕ → ℕ → List ℕ → List ℕ
set name day revision image n status = set_of (codes "u-web") name day revision (codes "{\"app\":\"web\",\"pod-template-hash\":\"" ++ name ++ codes "\"}") image n status

-- a pod of a set, in a phase
abbrev pub pod : List ℕ → List ℕ → List ℕ
pod set_uid phase =
    codes "{\"metadata\":{\"name\":\"p\",\"namespace\":\"default\",\"ownerReferences\":[{\"controller\":true,\"uid\":\"" ++ set_uid ++ codes "\"}]},\"status\":{\"phase\":\"" ++ phase ++ codes "\"}}"

-- ---- hands of texts, and commands as texts

abbrev pub named : Kind → Data → Key × Data
named k d = (record { kind = k; namespace = codes "default"; name = unwrap_or (name d) [] }, d)

abbrev pub keyed : Kind → List ℕ → Key × Data
keyed k t = named k (unwrap_or (data_of t) null)

abbrev pub hand : List ℕ → List (List ℕ) → List (List ℕ) → Hand
hand d ss ps =
    record {
      key = record { kind = Deployment; namespace = codes "default"; name = codes "web" };
      looks = record { config_maps = []; pods = map (keyed Pod) ps; replica_sets = map (keyed ReplicaSet) ss; deployments = keyed Deployment d ∷ [] };
      is_satisfied = true;
      reads = [];
    }

-- an update by the version that it names, the number of pods and the annotations
abbrev pub line : Command → List ℕ
line (create k ns d) = codes "create " ++ ns ++ codes " " ++ compact_text d
line (update k d) =
    codes "update " ++ k.name ++ codes " at " ++ unwrap_or (version d) [] ++ codes ": " ++ text_or_empty (in_spec (codes "replicas") d) ++ codes " " ++ text_or_empty (metadata (codes "annotations") d)
line (update_status k d) = codes "status at " ++ unwrap_or (version d) [] ++ codes ": " ++ text_or_empty (get (codes "status") d)
line (delete k u v p) = codes "delete " ++ k.name ++ codes " " ++ unwrap_or u []

abbrev pub commanded : Hand → List (List ℕ)
commanded h = map line (plan h)

abbrev pub Commands : List ℕ → List (List ℕ) → List (List ℕ) → List (List ℕ) → Type 0
Commands d ss ps lines = commanded (hand d ss ps) ≡ lines

-- the status that says so many pods, ready ones, available ones, those of the new set, and how many are unavailable
abbrev pub told : ℕ → ℕ → ℕ → ℕ → ℕ → List ℕ
told n ready available updated unavailable =
    codes "{\"availableReplicas\":" ++ decimal available ++ codes ",\"observedGeneration\":1,\"readyReplicas\":" ++ decimal ready ++ codes ",\"replicas\":" ++ decimal n
    ++ codes ",\"unavailableReplicas\":" ++ decimal unavailable ++ codes ",\"updatedReplicas\":" ++ decimal updated ++ codes "}"

abbrev pub status_line : List ℕ → List ℕ
status_line s = codes "status at 5: " ++ s

abbrev pub update_line : List ℕ → ℕ → ℕ → List ℕ
update_line name n revision =
    codes "update " ++ name ++ codes " at 9: " ++ decimal n ++ codes " {\"deployment.kubernetes.io/revision\":\"" ++ decimal revision ++ codes "\"}"

abbrev pub create_line : List ℕ → ℕ → ℕ → List ℕ
create_line hash n revision =
    codes "create default {\"metadata\":{\"annotations\":{\"deployment.kubernetes.io/revision\":\"" ++ decimal revision ++ codes "\"},\"labels\":{\"app\":\"web\",\"pod-template-hash\":\"" ++ hash
    ++ codes "\"},\"name\":\"web-" ++ hash
    ++ codes "\",\"ownerReferences\":[{\"apiVersion\":\"apps/v1\",\"blockOwnerDeletion\":true,\"controller\":true,\"kind\":\"Deployment\",\"name\":\"web\",\"uid\":\"u-web\"}]},\"spec\":{\"replicas\":" ++ decimal n
    ++ codes ",\"selector\":{\"matchLabels\":{\"app\":\"web\",\"pod-template-hash\":\"" ++ hash ++ codes "\"}},\"template\":{\"metadata\":{\"labels\":{\"app\":\"web\",\"pod-template-hash\":\"" ++ hash
    ++ codes "\"}},\"spec\":{\"image\":\"v2\"}}}}"

abbrev pub old : ℕ → List ℕ
old n = set (codes "web-old") 10 1 (codes "v1") n (all n)

abbrev pub new : ℕ → ℕ → List ℕ
new n available = set (codes "web-new") 11 2 (codes "v2") n (of_pods n available available)

-- ---- a rolling update of ten pods, of which there may be thirteen, and eight have to be available

-- ten available pods of an old template: a set of three is made of the new one
abbrev pub NewSetsAreMade : Type 0
NewSetsAreMade = Commands (rolling 10) (old 10 ∷ []) [] (create_line (codes "77ca809e71") 3 2 ∷ status_line (told 10 10 10 0 0) ∷ [])

-- while none of the three is available, two of the old ones may go
abbrev pub OldSetsShrink : Type 0
OldSetsShrink = Commands (rolling 10) (new 3 0 ∷ old 10 ∷ []) [] (update_line (codes "web-old") 8 1 ∷ status_line (told 13 10 10 3 3) ∷ [])

-- and so the new set grows to five
abbrev pub NewSetsGrow : Type 0
NewSetsGrow = Commands (rolling 10) (new 3 0 ∷ old 8 ∷ []) [] (update_line (codes "web-new") 5 2 ∷ status_line (told 11 8 8 3 3) ∷ [])

-- as five are available, the old set goes to three
abbrev pub AvailablePodsAreReplaced : Type 0
AvailablePodsAreReplaced = Commands (rolling 10) (new 5 5 ∷ old 8 ∷ []) [] (update_line (codes "web-old") 3 1 ∷ status_line (told 13 13 13 5 0) ∷ [])

-- pods that are not available go first, and then available ones; in one turn
abbrev pub BrokenPodsGoFirst : Type 0
BrokenPodsGoFirst =
    Commands (rolling 10)
    (set (codes "web-a") 10 1 (codes "v0") 4 (of_pods 4 0 0) ∷ set (codes "web-b") 11 2 (codes "v1") 6 (all 6) ∷ set (codes "web-new") 12 3 (codes "v2") 3 (all 3) ∷ []) []
    (update_line (codes "web-a") 0 1 ∷ update_line (codes "web-b") 5 2 ∷ status_line (told 13 9 9 3 4) ∷ [])

-- a set that is new again gets the revision that is due, in the update that scales it
abbrev pub RolledBackSetsAreRaised : Type 0
RolledBackSetsAreRaised =
    Commands (rolling 2) (set (codes "web-one") 10 1 (codes "v2") 0 (all 0) ∷ set (codes "web-two") 11 2 (codes "v1") 2 (all 2) ∷ []) []
    (update_line (codes "web-one") 1 3 ∷ status_line (told 2 2 2 0 0) ∷ [])

-- also where nothing else of it changes
abbrev pub RevisionsAloneAreRaised : Type 0
RevisionsAloneAreRaised =
    Commands (rolling 2) (set (codes "web-one") 10 1 (codes "v2") 2 (all 2) ∷ set (codes "web-two") 11 2 (codes "v1") 0 (all 0) ∷ []) []
    (update_line (codes "web-one") 2 3 ∷ status_line (told 2 2 2 2 0) ∷ [])

-- labels and metadata that have nothing but the hash in them count as absent: the set is the new one
abbrev pub EmptyLabelsAreAbsent : Type 0
EmptyLabelsAreAbsent =
    commanded
    (hand (codes "{\"metadata\":{\"name\":\"web\",\"namespace\":\"default\",\"resourceVersion\":\"5\",\"uid\":\"u-web\"},\"spec\":{\"replicas\":2,\"strategy\":{\"rollingUpdate\":{\"maxSurge\":1,\"maxUnavailable\":0},\"type\":\"RollingUpdate\"},\"template\":{\"metadata\":{},\"spec\":{\"image\":\"v2\"}}},\"status\":{}}")
    (set_of (codes "u-web") (codes "web-one") 10 1 (codes "{\"pod-template-hash\":\"x\"}") (codes "v2") 1 (all 1) ∷ []) [])
    ≡ update_line (codes "web-one") 2 1 ∷ status_line (codes "{\"availableReplicas\":1,\"observedGeneration\":0,\"readyReplicas\":1,\"replicas\":1,\"unavailableReplicas\":0,\"updatedReplicas\":1}") ∷ []

-- ---- Deployments that stand still

-- the status of one that is paused is reported, and nothing else is done
abbrev pub PausedOnesAreLeft : Type 0
PausedOnesAreLeft = Commands (web 10 [] (quarters ++ codes ",\"paused\":true") (codes "{}")) (old 10 ∷ []) [] (status_line (told 10 10 10 0 0) ∷ [])

-- so is that of one that is being deleted
abbrev pub DeletedOnesAreLeft : Type 0
DeletedOnesAreLeft = Commands (web 10 (codes ",\"deletionTimestamp\":\"2026-01-01T00:01:00Z\"") quarters (codes "{}")) (old 10 ∷ []) [] (status_line (told 10 10 10 0 0) ∷ [])

-- of what is in the status, pods, ready ones and available ones are told apart, and pods that a set has from those it is to have
abbrev pub CountsAreApart : Type 0
CountsAreApart =
    Commands (web 10 [] (quarters ++ codes ",\"paused\":true") (codes "{\"collisionCount\":1}"))
    (set (codes "web-new") 11 2 (codes "v2") 5 (of_pods 4 3 2) ∷ set (codes "web-old") 10 1 (codes "v1") 7 (of_pods 6 5 4) ∷ []) []
    (status_line (codes "{\"availableReplicas\":6,\"collisionCount\":1,\"observedGeneration\":1,\"readyReplicas\":8,\"replicas\":10,\"unavailableReplicas\":6,\"updatedReplicas\":4}") ∷ [])

-- ---- names that are taken

abbrev pub taken : List ℕ → List ℕ
taken name = set_of (codes "u-other") name 10 1 (codes "{}") (codes "v1") 0 (all 0)

-- where another's set has the name, the collision is counted, and nothing else is done
abbrev pub TakenNamesAreCounted : Type 0
TakenNamesAreCounted = Commands (rolling 10) (taken (codes "web-77ca809e71") ∷ []) [] (status_line (codes "{\"collisionCount\":1}") ∷ [])

-- the count is in the next name
abbrev pub CountsAreInNames : Type 0
CountsAreInNames =
    Commands (web 10 [] quarters (codes "{\"collisionCount\":1}")) (taken (codes "web-77ca809e71") ∷ []) []
    (create_line (codes "4f7fe9bdf7") 10 1
    ∷ status_line (codes "{\"availableReplicas\":0,\"collisionCount\":1,\"observedGeneration\":1,\"readyReplicas\":0,\"replicas\":0,\"unavailableReplicas\":0,\"updatedReplicas\":0}") ∷ [])

-- at the greatest count nothing is done
abbrev pub CountsEnd : Type 0
CountsEnd = Commands (web 10 [] quarters (codes "{\"collisionCount\":2147483647}")) (taken (codes "web-cc4830b1b2") ∷ []) [] []

-- ---- old pods first, then new ones

-- the old set is asked for nothing first
abbrev pub RecreateStopsOldPodsFirst : Type 0
RecreateStopsOldPodsFirst = Commands (web 2 [] recreating (codes "{}")) (old 2 ∷ []) [] (update_line (codes "web-old") 0 1 ∷ status_line (told 2 2 2 0 0) ∷ [])

-- while one of its pods is not over, nothing is made
abbrev pub RecreateWaitsForOldPods : Type 0
RecreateWaitsForOldPods = Commands (web 2 [] recreating (codes "{}")) (old 0 ∷ []) (pod (codes "u-web-old") (codes "Running") ∷ []) (status_line (told 0 0 0 0 0) ∷ [])

-- and then the new set is made whole
abbrev pub RecreateThenMakes : Type 0
RecreateThenMakes =
    Commands (web 2 [] recreating (codes "{}")) (old 0 ∷ []) (pod (codes "u-web-old") (codes "Failed") ∷ []) (create_line (codes "77ca809e71") 2 2 ∷ status_line (told 0 0 0 0 0) ∷ [])

-- ---- clean-up

-- where all is done, old sets go but for the last ones by revision, whatever their age; a status that stands is not reported again
abbrev pub SpentSetsAreDeleted : Type 0
SpentSetsAreDeleted =
    Commands (web 2 [] quarters (told 2 2 2 2 0))
    (set (codes "web-new") 13 9 (codes "v2") 2 (all 2) ∷ set (codes "web-one") 10 8 (codes "v0") 0 (all 0) ∷ set (codes "web-two") 11 7 (codes "v1") 0 (all 0) ∷ []) []
    (codes "delete web-two u-web-two" ∷ [])

-- one whose controller has not seen yet that it is to have no pods stays
abbrev pub OthersStay : Type 0
OthersStay =
    Commands (web 2 [] quarters (told 2 2 2 2 0))
    (set (codes "web-new") 13 9 (codes "v2") 2 (all 2) ∷ set (codes "web-one") 10 8 (codes "v0") 0 (all 0) ∷ set (codes "web-two") 11 7 (codes "v1") 0 (codes "{\"observedGeneration\":0}") ∷ []) [] []

-- none goes before all pods are of the new template
abbrev pub NoneGoBefore : Type 0
NoneGoBefore =
    Commands (web 2 [] quarters (told 1 1 1 1 1))
    (set (codes "web-new") 13 9 (codes "v2") 2 (all 1) ∷ set (codes "web-one") 10 8 (codes "v0") 0 (all 0) ∷ set (codes "web-two") 11 7 (codes "v1") 0 (all 0) ∷ []) [] []
