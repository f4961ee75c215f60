-- Whatever steps are taken: what a cluster's informers have published, and what its conditional writes replaced.
use Rattle.std.specs.Prelude.{◌≡◌, ◌≤◌, ℕ, List, [], ◌∷◌, Some, Ok}
use Rattle.serde_json.specs.Data.{Data}
use Rattle.spec_api.specs.declared.kinds.Kind.{Kind}
use Rattle.spec_api.specs.declared.methods.Method.{Method}
use Rattle.spec_api.specs.DeleteOptions.{Options}
use Rattle.spec_api.specs.History.{History, present, state, list}
use Rattle.spec_api.specs.Keys.{Key}
use Rattle.spec_api.specs.Metadata.{version}
use Rattle.spec_api.specs.ObjectRequests.{Request, update_object, update_status, patch_object, delete_object}
use Rattle.spec_api.specs.Reached.{IsReached, IsTimestamp}
use Rattle.spec_api.specs.Reading.{reading}
use Rattle.spec_api.specs.Replies.{outcome}
use Rattle.spec_api.specs.Targets as asked
use Rattle.spec_api.specs.Targets.{read_request}
use Rattle.spec_api.specs.Values.{merged}
use Rattle.spec_api.specs.Verbs.{accept, history_after, object_in}
use Rattle.spec_line_protocol.specs.Lines.{line_of, ask, reply_text}
use Rattle.spec_laws.specs.LifecycleLaws.{ReplacesVersion}
use Rattle.spec_laws.specs.SentLaws.{whole}
use Rattle.spec_sim.specs.declared.initial_syncs.InitialSync.{InitialSync}
use Rattle.spec_sim.specs.Followers.{begun}
use Rattle.spec_sim.specs.Moves.{replied}
use Rattle.spec_sim.specs.Clusters.{Cluster, opened, history, follower, ClusterStep, request, restart, step, run}
use Rattle.sim_cluster_laws.specs.FollowerLaws.{IsFollowing}

-- ---- what informers publish

-- what has happened at the server can happen, and each follower follows it
abbrev pub IsFollowed : Cluster → Type 0
IsFollowed c = IsReached (history c) × IsTimestamp c.session.moment × ((k : Kind) → IsFollowing (history c) k (follower k c))

-- each step leaves it so
abbrev pub StepsKeep : Type 0
StepsKeep = (c : Cluster) (s : ClusterStep) → IsFollowed c → IsFollowed (step c s).cluster

-- and so it is over every list of steps of clients, reflectors, cut streams and compactions
abbrev pub RunsAreFollowed : Type 0
RunsAreFollowed = (size : ℕ) (initial : InitialSync) (steps : List ClusterStep) → IsFollowed (run (opened size initial) steps)

-- the published map of each kind is the server's list at the revision that is published with it, which has happened
abbrev pub ShowsServerLists : Cluster → Type 0
ShowsServerLists c =
    (k : Kind)
    → (let published = (follower k c).informer.published in
    (published.members ≡ list (history c) (whole k) published.revision) × (published.revision ≤ present (history c)))

-- whatever steps are taken
abbrev pub InformersShowServerLists : Type 0
InformersShowServerLists = (size : ℕ) (initial : InitialSync) (steps : List ClusterStep) → ShowsServerLists (run (opened size initial) steps)

-- no step but a restart
abbrev pub NoRestart : List ClusterStep → Type 0
NoRestart [] = Unit {0}
NoRestart (restart ∷ ss) = ⊥
NoRestart (s ∷ ss) = NoRestart ss

-- the revisions that an informer publishes never fall between two restarts
abbrev pub PublishedRevisionsRise : Type 0
PublishedRevisionsRise =
    (size : ℕ) (initial : InitialSync) (before steps : List ClusterStep) (k : Kind) → NoRestart steps
    → (let c = run (opened size initial) before in (follower k c).informer.published.revision ≤ (follower k (run c steps)).informer.published.revision)

-- a restart leaves what has happened, and nothing of what followed it, which begins as it began at first
abbrev pub RestartsBeginAnew : Type 0
RestartsBeginAnew =
    (c : Cluster) (k : Kind)
    → (follower k (step c restart).cluster ≡ begun c.initial k) × ((step c restart).cluster.session ≡ c.session) × ((step c restart).cluster.initial ≡ c.initial)

-- ---- conditional writes

-- the line asks this request
abbrev pub Asks : List ℕ → Request → Type 0
Asks t q = (method : Method) × (target : List ℕ) × (body : List ℕ) × (line_of t ≡ ask method target body) × (read_request method target body ≡ Ok (asked.request q))

-- an update, an update of the status, a patch or a delete that names a version of the object under a key, after this has happened
pub data NamesVersion (h : History) (k : Key) (named : List ℕ) : Request → Type 0 where
  update : (d o : Data) → reading k.kind d ≡ Ok o → version o ≡ Some named → NamesVersion h k named (update_object k d)
  status : (d o : Data) → reading k.kind d ≡ Ok o → version o ≡ Some named → NamesVersion h k named (update_status k d)
  patch : (d existing o : Data) → state h (present h) k ≡ Some existing → object_in k.kind (merged existing d) ≡ Ok o → version o ≡ Some named → NamesVersion h k named (patch_object k d)
  delete : (o : Options) → o.version ≡ Some named → NamesVersion h k named (delete_object k o)

-- a client's line that asks such a request is answered by what has happened, and if it writes, what stood under the key had just this
-- version (Kubernetes API Conventions, Concurrency Control and Consistency)
abbrev pub NamedVersionsAreReplaced : Type 0
NamedVersionsAreReplaced =
    (c : Cluster) (t : List ℕ) (q : Request) (k : Key) (named : List ℕ) → Asks t q → NamesVersion (history c) k named q
    → (let o = accept q (history c) c.session.moment in
    ((step c (request t)).outcome ≡ replied (reply_text (outcome o)))
    × (history (step c (request t)).cluster ≡ history_after (history c) o)
    × ReplacesVersion k named (history c) o)
