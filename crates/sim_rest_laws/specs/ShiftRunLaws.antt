-- Whatever steps are taken: what differs between two published maps of a kind was published in between, change by change.
use Rattle.std.specs.Prelude.{◌≡◌, ◌⊎◌, ◌==◌, List, [], ◌∷◌, ◌++◌, map, true, false, Option, if◌then◌else◌}
use Rattle.serde_json.specs.Data.{Data}
use Rattle.spec_api.specs.declared.kinds.Kind.{Kind}
use Rattle.spec_api.specs.History.{Entries, found}
use Rattle.spec_api.specs.Keys.{Key, is_same_key}
use Rattle.spec_api.specs.Kinds.{rank}
use Rattle.spec_client_go.specs.Informers as informers
use Rattle.spec_client_go.specs.Reflectors.{Delta, replace}
use Rattle.spec_client_go.specs.Shifts.{Shift}
use Rattle.spec_sim.specs.Clusters.{Cluster, follower, moves}
use Rattle.spec_sim.specs.Followers.{Notification}
use Rattle.spec_sim.specs.Moves.{publish}
use Rattle.spec_sim.specs.ControlPlanes.{ControlPlane, Step, in_cluster, step, run}
use Rattle.sim_worker_laws.specs.OwedLaws.{NoRestart, published}

-- ---- what is published

abbrev pub members : Kind → ControlPlane → Entries
members k p = (follower k p.cluster).informer.published.members

abbrev pub if_kind : {A : Type 0} → Kind → Kind → List A → List A
if_kind j k xs = if rank j == rank k then xs else []

-- the deltas that a publication publishes, where it is open
abbrev pub waiting : Kind → Cluster → List Delta
waiting k c = let f = follower k c in if f.reflector.revision == 0 then [] else f.informer.pending

-- the deltas of a kind that a step publishes, and the changes by them
abbrev pub deltas_by : Kind → ControlPlane → Step → List Delta
deltas_by k p (in_cluster (moves j publish)) = if_kind j k (waiting k p.cluster)
deltas_by k p s = []

abbrev pub published_by : Kind → ControlPlane → Step → List Notification
published_by k p (in_cluster (moves j publish)) = if_kind j k (published k p.cluster)
published_by k p s = []

-- those of steps one after another
abbrev pub all_deltas : Kind → ControlPlane → List Step → List Delta
all_deltas k p [] = []
all_deltas k p (s ∷ ss) = deltas_by k p s ++ all_deltas k (step p s).plane ss

abbrev pub all_published : Kind → ControlPlane → List Step → List Notification
all_published k p [] = []
all_published k p (s ∷ ss) = published_by k p s ++ all_published k (step p s).plane ss

-- ---- what was replaced

abbrev pub NoReplace : List Delta → Type 0
NoReplace [] = Unit {0}
NoReplace (replace r os ∷ ds) = ⊥
NoReplace (d ∷ ds) = NoReplace ds

-- no delta but the first gives the whole map
abbrev pub OnlyTheFirst : List Delta → Type 0
OnlyTheFirst [] = Unit {0}
OnlyTheFirst (d ∷ ds) = NoReplace ds

-- nothing of a kind was published, and nothing waits
abbrev pub HasNothing : Kind → ControlPlane → Type 0
HasNothing k p = (follower k p.cluster).informer ≡ informers.begun

-- ---- what leads from one to another

-- these changes, one after another, make of one object under a key another, each of what the one before it left; those of other keys do nothing to it
abbrev pub Lead : Key → Option Data → List Shift → Option Data → Type 0
Lead x a [] b = a ≡ b
Lead x a (s ∷ ss) b = ((is_same_key x s.key ≡ true) × (s.old ≡ a) × Lead x s.new ss b) ⊎ ((is_same_key x s.key ≡ false) × Lead x a ss b)

abbrev pub shifts : List Notification → List Shift
shifts ns = map (λ (n : Notification). n.shift) ns

-- where followers have begun anew, whatever steps are then taken without a restart, and as long as no delta but the first gives the whole map: between any two
-- points of them, the changes that were published lead under each key from what was published to what is published
abbrev pub PublishedChangesLead : Type 0
PublishedChangesLead =
    (p : ControlPlane) (before after : List Step) (k : Kind) (x : Key) → HasNothing k p → NoRestart (before ++ after) → OnlyTheFirst (all_deltas k p (before ++ after))
    → Lead x (found x (members k (run p before))) (shifts (all_published k (run p before) after)) (found x (members k (run p (before ++ after))))
