-- What becomes of the pods that are made for a set: they stay the set's own, and match it.
use Rattle.std.specs.Prelude.{◌≡◌, ◌≤◌, ℕ, List, [], true, Some}
use Rattle.serde_json.specs.Data.{Data}
use Rattle.spec_api.specs.declared.kinds.Kind.TheVariants.{Pod, ReplicaSet}
use Rattle.spec_api.specs.History.{History, present, state}
use Rattle.spec_api.specs.Keys.{Key}
use Rattle.spec_api.specs.Metadata.{uid}
use Rattle.spec_client_go.specs.Expectations.{Owner}
use Rattle.spec_reconcile.specs.Pods.{matches}
use Rattle.spec_sim.specs.ControlPlanes.{Step, opened, run}
use Rattle.spec_sim.specs.declared.initial_syncs.InitialSync.{InitialSync}
use Rattle.spec_sim.specs.Clusters.{history}
use Rattle.sim_overshoot_laws.specs.BoundRuns.{AllAreKept}
use Rattle.sim_overshoot_laws.specs.KeptPods.{is_among}
use Rattle.sim_overshoot_laws.specs.Overshoot.{made, LetAlone}
use Rattle.sim_overshoot_laws.specs.Reserves.{is_controlled}

-- a pod names the set as its controller, and the set, as it was at a revision, matches it
pub record IsOfSet (o : Owner) (h : History) (pod : Data) : Type 0 where
  pub controlled : is_controlled o pod ≡ true
  pub matched : (r : ℕ) × (k : Key) × (set : Data) × (r ≤ present h) × (k.kind ≡ ReplicaSet) × (state h r k ≡ Some set) × (uid set ≡ Some o.uid) × (matches set pod ≡ true)

-- so it is of each of these pods, whenever it is there
abbrev pub StayOfSet : Owner → List Data → History → Type 0
StayOfSet o pods h = (r : ℕ) (k : Key) (d : Data) → r ≤ present h → k.kind ≡ Pod → state h r k ≡ Some d → is_among pods d ≡ true → IsOfSet o h d

-- over every list of steps that let a set alone, the pods that are made for it stay so
abbrev pub MadePodsStayOfSet : Type 0
MadePodsStayOfSet =
    (window workers : ℕ) (initial : InitialSync) (steps : List Step) (o : Owner) → (let v = opened window workers initial in LetAlone o v steps → StayOfSet o (made o v steps) (history (run v steps).cluster))

-- so they are kept, step by step
abbrev pub MadePodsAreKept : Type 0
MadePodsAreKept = (window workers : ℕ) (initial : InitialSync) (steps : List Step) (o : Owner) → (let v = opened window workers initial in LetAlone o v steps → AllAreKept o [] v steps)
