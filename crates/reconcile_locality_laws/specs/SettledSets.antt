-- What it says of a ReplicaSet that nothing is to be done for it.
use Rattle.std.specs.Prelude.{◌≡◌, ◌&&◌, [], length, filter, true, false, Some, codes}
use Rattle.std.specs.List.{AllByRecursion}
use Rattle.serde_json.specs.Data.{Data, object}
use Rattle.spec_api.specs.History.{Entries}
use Rattle.spec_api.specs.Metadata.{is_being_deleted}
use Rattle.spec_api.specs.Replacements.{says_the_same}
use Rattle.spec_client_go.specs.Hands.{Hand, live}
use Rattle.spec_reconcile.specs.Counts.{count_in_status}
use Rattle.spec_reconcile.specs.PodClaims.{may_adopt}
use Rattle.spec_reconcile.specs.Pods.{is_owned, is_orphan, matches}
use Rattle.spec_reconcile.specs.ReplicaSets.{plan, replicas, set_looked_at, pods_looked_at, has_adoptable, new_status, ready_pods}
use Rattle.spec_reconcile.specs.Statuses.{status}

-- the active pods that the set controls
abbrev pub controlled : Data → Entries → Entries
controlled set pods = filter (λ p. is_owned set p.1) pods

-- where a pod is to be adopted, the live read found the set as it was looked at, so that it may be
abbrev pub WasReadLive : Hand → Data → Type 0
WasReadLive h set = has_adoptable set (pods_looked_at h) ≡ true → may_adopt set (live h.reads h.key) ≡ true

-- a set has just the pods that it asks for: they match, no other matching pod is without a controller, and its status counts them
pub record IsSettled (h : Hand) (set : Data) : Type 0 where
  pub just_as_many : length (controlled set (pods_looked_at h)) ≡ replicas set
  pub all_match : AllByRecursion (λ p. is_owned set p.1 ≡ true → matches set p.1 ≡ true) (pods_looked_at h)
  pub no_orphan : AllByRecursion (λ p. (is_orphan p.1 && matches set p.1) ≡ false) (pods_looked_at h)
  pub is_reported : says_the_same (object (status set)) (object (new_status set (controlled set (pods_looked_at h)))) ≡ true

-- its status says how many they are, and how many of them are ready
pub record IsCounted (h : Hand) (set : Data) : Type 0 where
  pub all : count_in_status (codes "replicas") set ≡ length (controlled set (pods_looked_at h))
  pub ready : count_in_status (codes "readyReplicas") set ≡ length (ready_pods (controlled set (pods_looked_at h)))
  pub available : count_in_status (codes "availableReplicas") set ≡ length (ready_pods (controlled set (pods_looked_at h)))

abbrev pub EmptyPlansAreOfSettledSets : Type 0
EmptyPlansAreOfSettledSets =
    (h : Hand) (set : Data) → set_looked_at h ≡ Some set → is_being_deleted set ≡ false → h.is_satisfied ≡ true → WasReadLive h set → plan h ≡ [] → IsSettled h set
