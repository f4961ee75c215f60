-- The ReplicaSet controller's plan: what it commands for one set, of what a worker has read in its turn (Kubernetes, ReplicaSet).
use Rattle.std.specs.Prelude.{ℕ, ◌&&◌, List, [], ◌∷◌, ◌++◌, map, length, replicate, filter, Bool, not, codes, Option, Some, None, if◌then◌else◌}
use Rattle.std.specs.List.{list_any}
use Rattle.serde_json.specs.Data.{Data, Members as Fields, put}
use Rattle.spec_api.specs.declared.kinds.Kind.TheVariants.{Pod}
use Rattle.spec_api.specs.Defaults.{unsigned_value}
use Rattle.spec_api.specs.History.{Entries, found}
use Rattle.spec_api.specs.Keys.{Key}
use Rattle.spec_api.specs.Metadata.{is_being_deleted, uid}
use Rattle.spec_api.specs.Replacements.{generation}
use Rattle.spec_client_go.specs.Commands.{Command, create, delete}
use Rattle.spec_client_go.specs.Hands.{Hand, live, unread}
use Rattle.spec_client_go.specs.Informers.{of_namespace}
pub use Rattle.spec_reconcile.specs.Counts.{replicas}
use Rattle.spec_reconcile.specs.NewPods.{new_pod}
use Rattle.spec_reconcile.specs.PodClaims.{claims, own_pods, is_adoptable, may_adopt}
use Rattle.spec_reconcile.specs.PodRanks.{missing, victims}
use Rattle.spec_reconcile.specs.Pods.{is_ready}
pub use Rattle.spec_reconcile.specs.Statuses.{status, with_status, report_status}

-- ---- what is looked at

-- the set of the turn
abbrev pub set_looked_at : Hand → Option Data
set_looked_at h = found h.key h.looks.replica_sets

-- the pods of its namespace
abbrev pub pods_looked_at : Hand → Entries
pods_looked_at h = of_namespace h.key.namespace h.looks.pods

-- ---- what is to be read live

abbrev pub has_adoptable : Data → Entries → Bool
has_adoptable set pods = list_any (λ (p : Key × Data). is_adoptable set p.1) pods

abbrev pub asks_of : Hand → Option Data → List Key
asks_of h None = []
asks_of h (Some set) = if has_adoptable set (pods_looked_at h) then h.key ∷ [] else []

-- before it adopts a pod, the set itself is read live, once
abbrev pub asks : Hand → List Key
asks h = unread h.reads (asks_of h (set_looked_at h))

-- ---- pods created and deleted

-- a pod is deleted by its uid, so that no other of its name is
abbrev pub delete_pod : Key × Data → Command
delete_pod p = delete p.0 (uid p.1) None None

-- the pods that are missing are created, and those that are too many deleted
abbrev pub scale : Key → Data → Entries → List Command
scale k set pods =
    replicate (missing (replicas set) pods) (create Pod k.namespace (new_pod k set)) ++ map delete_pod (victims (replicas set) pods)

-- once all that was expected has been seen, and unless the set is being deleted
abbrev pub scale_if : Bool → Key → Data → Entries → List Command
scale_if is_satisfied k set pods = if is_satisfied && not (is_being_deleted set) then scale k set pods else []

-- ---- the status (Kubernetes API reference, ReplicaSetStatus)

abbrev pub ready_pods : Entries → Entries
ready_pods pods = filter (λ p. is_ready p.1) pods

-- so many pods, so many of them ready and available, by the spec of this generation; other members stay
abbrev pub with_counts : ℕ → ℕ → ℕ → Fields → Fields
with_counts n ready generation ms =
    put (codes "replicas") (unsigned_value n)
    (put (codes "readyReplicas") (unsigned_value ready) (put (codes "availableReplicas") (unsigned_value ready) (put (codes "observedGeneration") (unsigned_value generation) ms)))

abbrev pub new_status : Data → Entries → Fields
new_status set pods = with_counts (length pods) (length (ready_pods pods)) (generation set) (status set)

abbrev pub report : Key → Data → Entries → List Command
report k set pods = report_status k set (new_status set pods)

-- ---- the plan

-- pods are released and adopted, then created or deleted, and the status is updated
abbrev pub plan_with : Bool → Key → Data → Bool → Entries → List Command
plan_with is_satisfied k set may pods =
    claims k set may pods ++ (scale_if is_satisfied k set (own_pods set may pods) ++ report k set (own_pods set may pods))

-- where the set is not there, nothing is done
abbrev pub plan_of : Hand → Option Data → List Command
plan_of h None = []
plan_of h (Some set) = plan_with h.is_satisfied h.key set (may_adopt set (live h.reads h.key)) (pods_looked_at h)

abbrev pub plan : Hand → List Command
plan h = plan_of h (set_looked_at h)
