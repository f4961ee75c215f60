-- Worked facts of defaults and checks: each check met and missed by one.
use Rattle.std.specs.Prelude.{ℕ, List, [], ◌∷◌, ◌++◌, ◌≡◌, ◌-◌, ◌^◌, true, false, replicate, codes, Option, Some, None, option_map, option_and_then}
use Rattle.std.specs.List.{list_all, list_any}
use Rattle.serde_json.specs.Read.{read}
use Rattle.serde_json.specs.Written.{compact_text}
use Rattle.spec_api.specs.declared.kinds.Kind.{Kind}
use Rattle.spec_api.specs.declared.kinds.Kind.TheVariants.{ConfigMap, Pod, ReplicaSet, Deployment}
use Rattle.spec_api.specs.declared.refusals.Field.{Field}
use Rattle.spec_api.specs.declared.refusals.Field.TheVariants.{Name, GenerateName, Labels, Finalizers, OwnerReferences, Replicas, Selector, Template, Strategy, RevisionHistoryLimit, Status}
use Rattle.spec_api.specs.Checks.{create_fault, update_fault, generates, is_percentage, is_of_the_future}
use Rattle.spec_api.specs.Defaults.{defaulted}
use Rattle.spec_api.specs.NewObjects.{with_first_status}
use Rattle.spec_api.specs.Uids.{uid_text}

-- ---- texts of objects

-- a text as JSON
abbrev pub quoted : List ℕ → List ℕ
quoted t = codes "\"" ++ (t ++ codes "\"")

abbrev pub with_metadata : List ℕ → List ℕ
with_metadata meta = codes "{\"metadata\":{" ++ (meta ++ codes "}}")

-- a set of these members of the metadata and the spec beside a name, a selector and a template that go together, and this status
abbrev pub set : List ℕ → List ℕ → List ℕ → List ℕ
set meta spec status =
    codes "{\"metadata\":{\"name\":\"a\"" ++ (meta ++ (codes "},\"spec\":{\"selector\":{\"matchLabels\":{\"x\":\"y\"}},\"template\":{\"metadata\":{\"labels\":{\"x\":\"y\"}}}"
    ++ (spec ++ (codes "},\"status\":{" ++ (status ++ codes "}}")))))

-- an object with this selector and this template
abbrev pub selecting : List ℕ → List ℕ → List ℕ
selecting selector template = codes "{\"metadata\":{\"name\":\"a\"},\"spec\":{\"selector\":" ++ (selector ++ (codes ",\"template\":" ++ (template ++ codes "}}")))

-- a Deployment with these amounts
abbrev pub rolling : List ℕ → List ℕ → List ℕ
rolling surge unavailable =
    set [] (codes ",\"strategy\":{\"type\":\"RollingUpdate\",\"rollingUpdate\":{\"maxSurge\":" ++ (surge ++ (codes ",\"maxUnavailable\":" ++ (unavailable ++ codes "}}")))) []

-- a Deployment that is replaced at once, with more in its spec and status
abbrev pub recreated : List ℕ → List ℕ → List ℕ
recreated spec status = set [] (codes ",\"strategy\":{\"type\":\"Recreate\"}" ++ spec) status

-- ---- the first faults of texts

-- of an object created as `a` at the present revision 5, with its first status
abbrev pub created : Kind → List ℕ → Option (Option Field)
created k t = option_map (λ d. create_fault k (codes "a") 5 (with_first_status k d)) (read t)

abbrev pub passes : Option (Option Field)
passes = Some None

abbrev pub fails : Field → Option (Option Field)
fails f = Some (Some f)

-- of an object in the place of one that is stored
abbrev pub updated : Kind → List ℕ → List ℕ → Option (Option Field)
updated k stored t = option_and_then (λ s. option_map (update_fault k (codes "a") 5 s) (read t)) (read stored)

abbrev pub NamesAreNeeded : Type 0
NamesAreNeeded =
    (created ConfigMap (with_metadata []) ≡ fails Name) × (created ConfigMap (with_metadata (codes "\"name\":\"a.b-c\"")) ≡ passes)
    × (created ConfigMap (with_metadata (codes "\"name\":\"a_b\"")) ≡ fails Name) × (created ConfigMap (with_metadata (codes "\"name\":\"a\",\"generateName\":\"-\"")) ≡ passes)
    × (created ConfigMap (with_metadata (codes "\"generateName\":\"-\"")) ≡ passes) × (created ConfigMap (with_metadata (codes "\"generateName\":\"A\"")) ≡ fails GenerateName)

abbrev pub NamesAreMade : Type 0
NamesAreMade =
    (generates (codes "web-bcdfg") (codes "web-") ≡ true) × (generates (codes "-bcdfg") (codes "-") ≡ false)
    × (generates (codes "a_bcdfg") (codes "a_") ≡ false) × (generates (codes "a.bcdfg") (codes "a.") ≡ true) × (generates (codes "a..bcdfg") (codes "a..") ≡ false)

abbrev pub LabelsAreChecked : Type 0
LabelsAreChecked =
    (created ConfigMap (with_metadata (codes "\"name\":\"a\",\"labels\":{\"example.com/app\":\"\",\"tier\":" ++ (quoted (replicate 63 97) ++ codes "}"))) ≡ passes)
    × (created ConfigMap (with_metadata (codes "\"name\":\"a\",\"labels\":{\"tier\":" ++ (quoted (replicate 64 97) ++ codes "}"))) ≡ fails Labels)
    × (created ConfigMap (with_metadata (codes "\"name\":\"a\",\"labels\":{\"-\":\"y\"}")) ≡ fails Labels)

abbrev pub FinalizersAreChecked : Type 0
FinalizersAreChecked =
    (created ConfigMap (with_metadata (codes "\"name\":\"a\",\"finalizers\":[" ++ (quoted (replicate 253 97) ++ codes "]"))) ≡ passes)
    × (created ConfigMap (with_metadata (codes "\"name\":\"a\",\"finalizers\":[" ++ (quoted (replicate 254 97) ++ codes "]"))) ≡ fails Finalizers)
    × (created ConfigMap (with_metadata (codes "\"name\":\"a\",\"finalizers\":[\"a\",\"\"]")) ≡ fails Finalizers)

abbrev pub owner : List ℕ → List ℕ → List ℕ
owner uid more = codes "{\"apiVersion\":\"v1\",\"kind\":\"Pod\",\"name\":\"p\",\"uid\":" ++ (quoted uid ++ (more ++ codes "}"))

abbrev pub owned : List ℕ → List ℕ
owned references = with_metadata (codes "\"name\":\"a\",\"ownerReferences\":[" ++ (references ++ codes "]"))

abbrev pub OwnersAreChecked : Type 0
OwnersAreChecked =
    (created ConfigMap (owned (owner (codes "u") (codes ",\"controller\":true") ++ (codes "," ++ owner (codes "v") (codes ",\"controller\":false")))) ≡ passes)
    × (created ConfigMap (owned (owner (codes "u") (codes ",\"controller\":true") ++ (codes "," ++ owner (codes "v") (codes ",\"controller\":true")))) ≡ fails OwnerReferences)
    × (created ConfigMap (owned (owner [] [])) ≡ fails OwnerReferences)
    × (created ConfigMap (owned (codes "{\"apiVersion\":\"v1\",\"kind\":\"Pod\",\"name\":\"p\"}")) ≡ fails OwnerReferences)
    × (created ConfigMap (owned (owner (uid_text 0 5) [])) ≡ passes) × (created ConfigMap (owned (owner (uid_text 0 6) [])) ≡ fails OwnerReferences)

-- a uid of another cluster, of another variant or in upper case is no uid that this server prints
abbrev pub UidsOfTheFutureAreKnown : Type 0
UidsOfTheFutureAreKnown =
    (is_of_the_future 5 (uid_text 0 6) ≡ true) × (is_of_the_future 6 (uid_text 0 6) ≡ false) × (is_of_the_future 5 (uid_text 1 6) ≡ false)
    × (is_of_the_future 1 (uid_text 0 (2 ^ 62 - 1)) ≡ true) × (is_of_the_future 1 (codes "00000000-0000-8000-8000-00000000000A") ≡ false)
    × (is_of_the_future 1 (codes "00000000-0000-8000-8000-00000000000a") ≡ true) × (is_of_the_future 1 (codes "00000000-0000-8001-8000-000000000009") ≡ false)
    × (is_of_the_future 1 (codes "00000000-0000-8000-c000-000000000009") ≡ false)

abbrev pub NumbersAreChecked : Type 0
NumbersAreChecked =
    (created ReplicaSet (set [] (codes ",\"replicas\":0") (codes "\"replicas\":0")) ≡ passes) × (created ReplicaSet (set [] (codes ",\"replicas\":-1") []) ≡ fails Replicas)
    × (created ReplicaSet (set [] [] (codes "\"replicas\":-1,\"availableReplicas\":-1")) ≡ passes) × (created ReplicaSet (set [] [] (codes "\"collisionCount\":-1")) ≡ passes)
    × (created Pod (set [] (codes ",\"replicas\":-1") (codes "\"replicas\":-1")) ≡ passes)
    × (created Deployment (recreated (codes ",\"revisionHistoryLimit\":0") (codes "\"collisionCount\":0")) ≡ passes)
    × (created Deployment (recreated (codes ",\"revisionHistoryLimit\":-1") []) ≡ fails RevisionHistoryLimit)
    × (created Deployment (recreated [] (codes "\"collisionCount\":-1")) ≡ passes)
    × (updated ReplicaSet (set [] [] []) (set [] [] (codes "\"availableReplicas\":-1")) ≡ fails Status)
    × (updated ReplicaSet (set [] [] []) (set [] [] (codes "\"collisionCount\":-1")) ≡ passes)
    × (updated Deployment (recreated [] []) (recreated [] (codes "\"collisionCount\":-1")) ≡ fails Status)

abbrev pub labelled : List ℕ
labelled = codes "{\"metadata\":{\"labels\":{\"x\":\"y\"}}}"

abbrev pub expressing : List ℕ → List ℕ
expressing expression = codes "{\"matchExpressions\":[" ++ (expression ++ codes "]}")

abbrev pub SelectorsAreChecked : Type 0
SelectorsAreChecked =
    (created ReplicaSet (selecting (codes "{}") labelled) ≡ fails Selector) × (created ReplicaSet (selecting (codes "{\"matchLabels\":{},\"matchExpressions\":[]}") labelled) ≡ fails Selector)
    × (created ReplicaSet (codes "{\"metadata\":{\"name\":\"a\"},\"spec\":{}}") ≡ fails Selector)
    × (created ReplicaSet (selecting (expressing (codes "{\"key\":\"x\",\"operator\":\"In\",\"values\":[]}")) labelled) ≡ fails Selector)
    × (created ReplicaSet (selecting (expressing (codes "{\"key\":\"x\",\"operator\":\"Exists\",\"values\":[]}")) labelled) ≡ passes)
    × (created ReplicaSet (selecting (expressing (codes "{\"key\":\"x\",\"operator\":\"Exists\",\"values\":[\"y\"]}")) labelled) ≡ fails Selector)
    × (created ReplicaSet (selecting (expressing (codes "{\"key\":\"x\",\"operator\":\"Gt\",\"values\":[\"1\"]}")) labelled) ≡ fails Selector)
    × (created ReplicaSet (selecting (expressing (codes "{\"operator\":\"Exists\"}")) labelled) ≡ fails Selector)

abbrev pub TemplatesAreChecked : Type 0
TemplatesAreChecked =
    (created ReplicaSet (selecting (expressing (codes "{\"key\":\"z\",\"operator\":\"NotIn\",\"values\":[\"y\"]}")) labelled) ≡ passes)
    × (created ReplicaSet (selecting (expressing (codes "{\"key\":\"x\",\"operator\":\"NotIn\",\"values\":[\"y\"]}")) labelled) ≡ fails Template)
    × (created ReplicaSet (selecting (codes "{\"matchLabels\":{\"x\":\"y\"}}") (codes "{}")) ≡ fails Template)
    × (created ReplicaSet (codes "{\"metadata\":{\"name\":\"a\"},\"spec\":{\"selector\":{\"matchLabels\":{\"x\":\"y\"}}}}") ≡ fails Template)
    × (created ReplicaSet (selecting (codes "{\"matchLabels\":{\"x\":\"y\"}}") (codes "{\"metadata\":{\"labels\":{\"x\":\"y\",\"-\":\"\"}}}")) ≡ fails Template)

abbrev pub StrategiesAreChecked : Type 0
StrategiesAreChecked =
    (created Deployment (set [] [] []) ≡ fails Strategy) × (created Deployment (recreated [] []) ≡ passes)
    × (created Deployment (set [] (codes ",\"strategy\":{\"type\":\"Recreate\",\"rollingUpdate\":{}}") []) ≡ fails Strategy)
    × (created Deployment (rolling (codes "1") (codes "\"0%\"")) ≡ passes) × (created Deployment (rolling (codes "0") (codes "\"00%\"")) ≡ fails Strategy)
    × (created Deployment (rolling (codes "\"101%\"") (codes "\"100%\"")) ≡ passes) × (created Deployment (rolling (codes "1") (codes "\"101%\"")) ≡ fails Strategy)
    × (created Deployment (rolling (codes "-1") (codes "1")) ≡ fails Strategy) × (created Deployment (rolling (codes "2147483647") (codes "2147483647")) ≡ passes)
    × (created Deployment (rolling (codes "2147483648") (codes "1")) ≡ fails Strategy)

abbrev pub PercentagesAreDigits : Type 0
PercentagesAreDigits =
    (list_all is_percentage (codes "0%" ∷ codes "25%" ∷ codes "999999999%" ∷ []) ≡ true)
    × (list_any is_percentage (codes "" ∷ codes "%" ∷ codes "25" ∷ codes "1000000000%" ∷ codes "25%%" ∷ codes "-1%" ∷ codes "2 %" ∷ []) ≡ false)

-- of several faults the first is answered
abbrev pub FirstFaultsAreSaid : Type 0
FirstFaultsAreSaid =
    (created ReplicaSet (set (codes ",\"labels\":{\"-\":\"y\"},\"finalizers\":[\"\"],\"ownerReferences\":[{}]") (codes ",\"replicas\":-1") (codes "\"replicas\":-1")) ≡ fails Labels)
    × (created ReplicaSet (set (codes ",\"finalizers\":[\"\"],\"ownerReferences\":[{}]") (codes ",\"replicas\":-1") (codes "\"replicas\":-1")) ≡ fails Finalizers)
    × (created ReplicaSet (set (codes ",\"ownerReferences\":[{}]") (codes ",\"replicas\":-1") (codes "\"replicas\":-1")) ≡ fails OwnerReferences)
    × (created Deployment (set [] (codes ",\"replicas\":-1,\"revisionHistoryLimit\":-1") (codes "\"replicas\":-1")) ≡ fails Replicas)
    × (created Deployment (set [] (codes ",\"revisionHistoryLimit\":-1") (codes "\"replicas\":-1")) ≡ fails Strategy)
    × (updated Deployment (recreated [] []) (recreated (codes ",\"revisionHistoryLimit\":-1") (codes "\"replicas\":-1")) ≡ fails RevisionHistoryLimit)

-- an update keeps the selector, and adds no finalizer to an object that is being deleted
abbrev pub UpdatesAreChecked : Type 0
UpdatesAreChecked =
    (updated ReplicaSet (set (codes ",\"deletionTimestamp\":\"t\",\"finalizers\":[\"a\"]") [] []) (set (codes ",\"finalizers\":[\"a\",\"b\"]") [] []) ≡ fails Finalizers)
    × (updated ReplicaSet (set (codes ",\"deletionTimestamp\":\"t\",\"finalizers\":[\"a\",\"b\"]") [] []) (set (codes ",\"finalizers\":[\"b\"]") [] []) ≡ passes)
    × (updated ReplicaSet (set (codes ",\"finalizers\":[\"a\"]") [] []) (set (codes ",\"finalizers\":[\"a\",\"b\"]") [] []) ≡ passes)
    × (updated ReplicaSet (selecting (codes "{\"matchLabels\":{\"x\":\"y\"}}") labelled) (selecting (codes "{\"matchLabels\":{\"x\":\"y\"},\"matchExpressions\":[]}") labelled) ≡ fails Selector)

-- the text of a text's object with its defaults
abbrev pub filled_in : Kind → List ℕ → Option (List ℕ)
filled_in k t = option_map (λ d. compact_text (defaulted k d)) (read t)

abbrev pub DefaultsAreFilledIn : Type 0
DefaultsAreFilledIn =
    (filled_in ReplicaSet (codes "{\"spec\":{}}") ≡ Some (codes "{\"spec\":{\"replicas\":1}}"))
    × (filled_in ReplicaSet (codes "{\"spec\":{\"replicas\":0}}") ≡ Some (codes "{\"spec\":{\"replicas\":0}}"))
    × (filled_in ReplicaSet (codes "{}") ≡ Some (codes "{}")) × (filled_in Pod (codes "{\"spec\":{}}") ≡ Some (codes "{\"spec\":{}}"))
    × (filled_in Deployment (codes "{\"spec\":{\"strategy\":{}}}")
    ≡ Some (codes "{\"spec\":{\"replicas\":1,\"revisionHistoryLimit\":10,\"strategy\":{\"rollingUpdate\":{\"maxSurge\":\"25%\",\"maxUnavailable\":\"25%\"},\"type\":\"RollingUpdate\"}}}"))
    × (filled_in Deployment (codes "{\"spec\":{\"replicas\":2,\"revisionHistoryLimit\":0,\"strategy\":{\"rollingUpdate\":{\"maxSurge\":1}}}}")
    ≡ Some (codes "{\"spec\":{\"replicas\":2,\"revisionHistoryLimit\":0,\"strategy\":{\"rollingUpdate\":{\"maxSurge\":1,\"maxUnavailable\":\"25%\"},\"type\":\"RollingUpdate\"}}}"))
    × (filled_in Deployment (codes "{\"spec\":{\"strategy\":{\"type\":\"Recreate\"}}}")
    ≡ Some (codes "{\"spec\":{\"replicas\":1,\"revisionHistoryLimit\":10,\"strategy\":{\"type\":\"Recreate\"}}}"))
