-- Worked facts of pods, computed from the definitions: what changes show of pods that are expected.
use Rattle.std.specs.Prelude.{◌≡◌, ℕ, List, [], ◌∷◌, ◌++◌, Bool, true, false, Option, Some, None, codes, unwrap_or}
use Rattle.serde_json.specs.Data.{Data, null}
use Rattle.spec_api.specs.declared.kinds.Kind.TheVariants.{ConfigMap, Pod, ReplicaSet}
use Rattle.spec_api.specs.Keys.{Key}
use Rattle.spec_api.specs.Values.{data_of}
use Rattle.spec_client_go.specs.Expectations.{Owner}
use Rattle.spec_client_go.specs.Boards.{Observation, creation_observed, deletion_observed}
use Rattle.spec_sim.specs.PodObservations.{observations}

-- a pod with a uid, these members more in its metadata, and an owner reference to the ReplicaSet `web`
abbrev pod_by : List ℕ → List ℕ → List ℕ → Data
pod_by u more flag =
    unwrap_or
    (data_of
    (codes "{\"metadata\":{" ++ (more
    ++ (codes "\"name\":\"p\",\"namespace\":\"default\",\"ownerReferences\":[{\"apiVersion\":\"apps/v1\",\"controller\":" ++ (flag
    ++ (codes ",\"kind\":\"ReplicaSet\",\"name\":\"web\",\"uid\":\"w\"}],\"uid\":\"" ++ (u ++ codes "\"}}")))))))
    null

abbrev pod : List ℕ → Data
pod u = pod_by u [] (codes "true")

abbrev going : List ℕ → Data
going u = pod_by u (codes "\"deletionTimestamp\":\"2026-01-01T00:00:00Z\",") (codes "true")

abbrev web : Owner
web = record { key = record { kind = ReplicaSet; namespace = codes "default"; name = codes "web" }; uid = codes "w" }

abbrev at : Key
at = record { kind = Pod; namespace = codes "default"; name = codes "p" }

abbrev shown : Bool → Option Data → Option Data → List Observation
shown initial old new = observations (record { shift = record { key = at; old = old; new = new }; is_in_initial_list = initial })

-- a pod that is seen first was created; one that is there no more, or is being deleted for the first time, was deleted; one with another
-- uid is another; and one that is seen first while it is being deleted was both
abbrev pub ChangesShowPods : Type 0
ChangesShowPods =
    (shown false None (Some (pod (codes "u"))) ≡ creation_observed web ∷ []) × (shown false (Some (pod (codes "u"))) (Some (pod (codes "u"))) ≡ [])
    × (shown false (Some (pod (codes "u"))) None ≡ deletion_observed web (codes "u") ∷ []) × (shown false (Some (pod (codes "u"))) (Some (going (codes "u"))) ≡ deletion_observed web (codes "u") ∷ [])
    × (shown false (Some (going (codes "u"))) (Some (going (codes "u"))) ≡ []) × (shown false (Some (going (codes "u"))) None ≡ deletion_observed web (codes "u") ∷ [])
    × (shown false (Some (pod (codes "u"))) (Some (pod (codes "v"))) ≡ deletion_observed web (codes "u") ∷ creation_observed web ∷ [])
    × (shown false None (Some (going (codes "u"))) ≡ creation_observed web ∷ deletion_observed web (codes "u") ∷ [])

-- those of the first list show nothing, nor does a pod that no ReplicaSet controls, nor an object of another kind
abbrev pub OthersShowNothing : Type 0
OthersShowNothing =
    (shown true None (Some (pod (codes "u"))) ≡ []) × (shown true (Some (pod (codes "u"))) None ≡ []) × (shown false None (Some (pod_by (codes "u") [] (codes "false"))) ≡ [])
    × (observations (record { shift = record { key = record at { kind = ConfigMap }; old = None; new = Some (pod (codes "u")) }; is_in_initial_list = false }) ≡ [])
