-- What it says of ReplicaSets, and of what has owners, that nothing is left to do at rest.
use Rattle.std.specs.Prelude.{◌≡◌, ◌&&◌, ℕ, List, length, true, false, Some, IfSome, codes}
use Rattle.std.specs.List.{AllByRecursion, list_any}
use Rattle.serde_json.specs.Data.{Data}
use Rattle.spec_api.specs.declared.kinds.Kind.TheVariants as kind
use Rattle.spec_api.specs.Checks.{finalizers, has_text}
use Rattle.spec_api.specs.Deletion.{orphan, foreground}
use Rattle.spec_api.specs.History.{History, Entries, present, state, list}
use Rattle.spec_api.specs.Keys.{Key}
use Rattle.spec_api.specs.Metadata.{Owner, owners, is_being_deleted}
use Rattle.spec_client_go.specs.declared.controller.Controller.TheVariants as controller
use Rattle.spec_client_go.specs.Informers.{of_namespace}
use Rattle.spec_client_go.specs.OwnerReferences.{owner_key, namespace_of}
use Rattle.spec_reconcile.specs.Counts.{count_in_status}
use Rattle.spec_reconcile.specs.Deployments.{is_going_on, rollout}
use Rattle.spec_reconcile.specs.Pods.{is_owned, is_orphan, matches}
use Rattle.spec_reconcile.specs.ReplicaSets.{replicas, ready_pods}
use Rattle.spec_reconcile.specs.Standings.{blocks, dependents, is_to, waits_for_dependents}
use Rattle.spec_laws.specs.RolloutLaws.{is_rolled}
use Rattle.spec_laws.specs.SentLaws.{whole}
use Rattle.spec_sim.specs.declared.initial_syncs.InitialSync.{InitialSync}
use Rattle.spec_sim.specs.Clusters.{history}
use Rattle.spec_sim.specs.ControlPlanes.{Step, opened, run}
use Rattle.reconcile_locality_laws.specs.SettledDeployments.{AreAvailable, IsRolledOut}
use Rattle.reconcile_locality_laws.specs.SettledSets.{controlled}
use Rattle.sim_rest_laws.specs.Rests.{IsAtRest}
use Rattle.sim_rest_laws.specs.LastTurnLaws.{BeganOnce}
use Rattle.sim_rest_laws.specs.StillLaws.{present_looks}
use Rattle.sim_rest_laws.specs.WholeLaws.{ReferencesAreTrue, MayCollide, RunsAreReached, NothingIsLeftOf}

-- ---- a ReplicaSet

-- the pods of a namespace that are there
abbrev pub pods_in : History → List ℕ → Entries
pods_in h namespace = of_namespace namespace (list h (whole kind.Pod) (present h))

-- the active pods that a set controls
abbrev pub pods_of : History → Key → Data → Entries
pods_of h x set = controlled set (pods_in h x.namespace)

-- a set has just as many as it asks for; all match, and no other matching pod is without a controller; and its status counts them
pub record IsAsDeclared (h : History) (x : Key) (set : Data) : Type 0 where
  pub just_as_many : length (pods_of h x set) ≡ replicas set
  pub all_match : AllByRecursion (λ p. is_owned set p.1 ≡ true → matches set p.1 ≡ true) (pods_in h x.namespace)
  pub no_orphan : AllByRecursion (λ p. (is_orphan p.1 && matches set p.1) ≡ false) (pods_in h x.namespace)
  pub counts_all : count_in_status (codes "replicas") set ≡ length (pods_of h x set)
  pub counts_ready : count_in_status (codes "readyReplicas") set ≡ length (ready_pods (pods_of h x set))
  pub counts_available : count_in_status (codes "availableReplicas") set ≡ length (ready_pods (pods_of h x set))

-- where followers have begun anew, as after a restart, no kind gave the whole map a second time, references are true, and nothing is left to do:
-- each ReplicaSet that is there, and is not being deleted, is as it is declared
abbrev pub SetsAreAsDeclaredAtRest : Type 0
SetsAreAsDeclaredAtRest =
    (window workers : ℕ) (initial : InitialSync) (before after : List Step) (x : Key) (set : Data)
    → (let p = run (opened window workers initial) before in
    let h = history (run p after).cluster in
    BeganOnce p after → IsAtRest (run p after) → ReferencesAreTrue h → x.kind ≡ kind.ReplicaSet → state h (present h) x ≡ Some set → is_being_deleted set ≡ false
    → IsAsDeclared h x set)

-- ---- a Deployment

-- each Deployment that is there, of strategy RollingUpdate, neither paused nor being deleted, and all of whose sets have all their pods available by their statuses, is rolled
-- out: its new set is to have all pods, the old ones none
abbrev pub DeploymentsAreRolledOutAtRest : Type 0
DeploymentsAreRolledOutAtRest =
    (window workers : ℕ) (initial : InitialSync) (before after : List Step) (x : Key) (d : Data)
    → (let p = run (opened window workers initial) before in
    let h = history (run p after).cluster in
    let r = rollout x d (list h (whole kind.ReplicaSet) (present h)) in
    BeganOnce p after → IsAtRest (run p after) → ReferencesAreTrue h → x.kind ≡ kind.Deployment → state h (present h) x ≡ Some d → MayCollide d → is_going_on d ≡ true → is_rolled d ≡ true
    → AreAvailable r → IsRolledOut r d)

-- ---- what has owners

-- an owner of a served kind is there, and does not wait for its dependents to go
abbrev pub IsThere : History → List ℕ → Owner → Type 0
IsThere h namespace o = IfSome (owner_key namespace o) (λ k. (d : Data) × (state h (present h) k ≡ Some d) × (is_to d o ≡ true) × (waits_for_dependents d ≡ false))

-- so each owner of an object that is there, and is not being deleted, is there
abbrev pub ItemsAreOwnedAtRest : Type 0
ItemsAreOwnedAtRest =
    (window workers : ℕ) (initial : InitialSync) (before after : List Step) (x : Key) (d : Data)
    → (let p = run (opened window workers initial) before in
    let h = history (run p after).cluster in
    BeganOnce p after → IsAtRest (run p after) → ReferencesAreTrue h → state h (present h) x ≡ Some d → is_being_deleted d ≡ false
    → AllByRecursion (IsThere h (namespace_of d)) (owners d))

-- ---- what is being deleted

-- an object's dependents are not to be orphaned, and where it waits for them to go, one of them blocks it
abbrev pub IsBlocked : History → Data → Type 0
IsBlocked h d = (has_text (finalizers d) orphan ≡ false) × (has_text (finalizers d) foreground ≡ true → list_any (λ m. blocks d m.1) (dependents (present_looks h) d) ≡ true)

-- so each object that is there, and is being deleted, has nothing that the collector could do for it
abbrev pub DeletionsAreBlockedAtRest : Type 0
DeletionsAreBlockedAtRest =
    (window workers : ℕ) (initial : InitialSync) (before after : List Step) (x : Key) (d : Data)
    → (let p = run (opened window workers initial) before in
    let h = history (run p after).cluster in
    BeganOnce p after → IsAtRest (run p after) → ReferencesAreTrue h → state h (present h) x ≡ Some d → is_being_deleted d ≡ true → IsBlocked h d)

-- ---- what it follows from

abbrev pub SetsFollow : Type 0
SetsFollow = RunsAreReached → NothingIsLeftOf controller.ReplicaSet → SetsAreAsDeclaredAtRest

abbrev pub DeploymentsFollow : Type 0
DeploymentsFollow = NothingIsLeftOf controller.Deployment → DeploymentsAreRolledOutAtRest

abbrev pub ItemsFollow : Type 0
ItemsFollow = NothingIsLeftOf controller.Collector → ItemsAreOwnedAtRest

abbrev pub DeletionsFollow : Type 0
DeletionsFollow = NothingIsLeftOf controller.Collector → DeletionsAreBlockedAtRest
