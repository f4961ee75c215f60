-- Whatever steps are taken by clients, controllers, reflectors and workers, with cut streams, compactions and restarts: what informers have published, what workers looked at, and what conditional writes replaced.
use Rattle.std.specs.Prelude.{◌≡◌, ◌≤◌, ℕ, List, Some}
use Rattle.std.specs.List.{AllByRecursion}
use Rattle.spec_api.specs.declared.kinds.Kind.{Kind}
use Rattle.spec_api.specs.History.{History, present, list}
use Rattle.spec_api.specs.Keys.{Key}
use Rattle.spec_api.specs.ObjectRequests.{Request}
use Rattle.spec_api.specs.Replies.{outcome}
use Rattle.spec_api.specs.Verbs.{accept, history_after}
use Rattle.spec_line_protocol.specs.Lines.{reply_text}
use Rattle.spec_laws.specs.LifecycleLaws.{ReplacesVersion}
use Rattle.spec_laws.specs.SentLaws.{whole}
use Rattle.spec_server.specs.Snapshots.{Snapshot}
use Rattle.spec_sim.specs.declared.initial_syncs.InitialSync.{InitialSync}
use Rattle.spec_sim.specs.Clusters.{history, follower, request}
use Rattle.spec_sim.specs.Moves.{replied}
use Rattle.sim_cluster_laws.specs.ClusterLaws.{IsFollowed, ShowsServerLists, Asks, NamesVersion}
use Rattle.spec_sim.specs.ControlPlanes.{ControlPlane, Step, in_cluster, works, opened, client, step, run}
use Rattle.spec_sim.specs.Managers.{Issued, Action, act}
use Rattle.spec_sim.specs.Outcomes.{of_cluster}
use Rattle.sim_worker_laws.specs.IssuedLaws.{IsSeen}
use Rattle.sim_worker_laws.specs.OwedLaws.{NoRestart}

-- what has happened at the server can happen, and each follower follows it
abbrev pub PlanesAreFollowed : Type 0
PlanesAreFollowed = (window workers : ℕ) (initial : InitialSync) (steps : List Step) → IsFollowed (run (opened window workers initial) steps).cluster

-- what each informer has published is the server's list at the revision published with it
abbrev pub InformersShowServerLists : Type 0
InformersShowServerLists = (window workers : ℕ) (initial : InitialSync) (steps : List Step) → ShowsServerLists (run (opened window workers initial) steps).cluster

-- the revisions that an informer publishes never fall between two restarts
abbrev pub PublishedRevisionsRise : Type 0
PublishedRevisionsRise =
    (window workers : ℕ) (initial : InitialSync) (before steps : List Step) (k : Kind) → NoRestart steps
    → (let p = run (opened window workers initial) before in (follower k p.cluster).informer.published.revision ≤ (follower k (run p steps).cluster).informer.published.revision)

-- a look is the server's list at its revision, which has happened
abbrev pub IsServerList : History → Kind → Snapshot → Type 0
IsServerList h k s = (s.members ≡ list h (whole k) s.revision) × (s.revision ≤ present h)

-- so is each look of each turn in which a command was issued
abbrev pub LookedAtServerLists : ControlPlane → Type 0
LookedAtServerLists p = AllByRecursion (λ (i : Issued). AllByRecursion (IsSeen (IsServerList (history p.cluster))) i.turn.sights) p.manager.issued

-- over every list of steps
abbrev pub LooksAreServerLists : Type 0
LooksAreServerLists = (window workers : ℕ) (initial : InitialSync) (steps : List Step) → LookedAtServerLists (run (opened window workers initial) steps)

-- a client's line that asks a request which names the version of an object is answered by what has happened, and if it writes, what stood
-- under the key had just this version (Kubernetes API Conventions, Concurrency Control and Consistency)
abbrev pub NamedVersionsAreReplaced : Type 0
NamedVersionsAreReplaced =
    (p : ControlPlane) (t : List ℕ) (q : Request) (k : Key) (named : List ℕ) → Asks t q → NamesVersion (history p.cluster) k named q
    → (let o = accept q (history p.cluster) p.cluster.session.moment in
    let s = step p (in_cluster (request t)) in
    (s.outcome ≡ of_cluster (replied (reply_text (outcome o)))) × (history s.plane.cluster ≡ history_after (history p.cluster) o) × ReplacesVersion k named (history p.cluster) o)

-- where what a worker asks of the server names the version of an object, and writes, what stood under the key had just this version
abbrev pub IssuedVersionsAreReplaced : Type 0
IssuedVersionsAreReplaced =
    (p : ControlPlane) (w : ℕ) (a : Action) (q : Request) (k : Key) (named : List ℕ) → (act (client p.cluster) w a p.manager).request ≡ Some q → NamesVersion (history p.cluster) k named q
    → (let o = accept q (history p.cluster) p.cluster.session.moment in
    (history (step p (works w a)).plane.cluster ≡ history_after (history p.cluster) o) × ReplacesVersion k named (history p.cluster) o)
