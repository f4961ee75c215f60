-- What waits to be published skips nothing that happened at the server.
use Rattle.std.specs.Prelude.{◌≡◌, ◌⊎◌, ◌≤◌, ◌<◌, ℕ, List, [], ◌∷◌}
use Rattle.spec_api.specs.declared.kinds.Kind.{Kind}
use Rattle.spec_api.specs.History.{History, list}
use Rattle.spec_api.specs.Reached.{IsReached}
use Rattle.spec_server.specs.Snapshots.{Snapshot}
use Rattle.spec_client_go.specs.Informers.{applied}
use Rattle.spec_client_go.specs.Reflectors.{Delta, replace}
use Rattle.spec_laws.specs.SentLaws.{whole}
use Rattle.spec_sim.specs.declared.initial_syncs.InitialSync.{InitialSync}
use Rattle.spec_sim.specs.Followers.{Follower}
use Rattle.spec_sim.specs.Moves.{Move, move}
use Rattle.spec_sim.specs.Clusters.{opened, history, follower, ClusterStep, run}
use Rattle.sim_cluster_laws.specs.FollowerLaws.{IsFollowing}

-- a delta gives the whole map
abbrev pub GivesAll : Delta → Type 0
GivesAll (replace r os) = Unit {0}
GivesAll d = ⊥

-- below the revision that a delta names the server's list was what is there before it
abbrev pub IsQuiet : History → Kind → Snapshot → Delta → Type 0
IsQuiet h k m d = (r : ℕ) → m.revision ≤ r → r < (applied m d).revision → list h (whole k) r ≡ m.members

-- each delta but one that gives the whole map is the next change, or tells that there was none
abbrev pub Passes : History → Kind → Snapshot → List Delta → Type 0
Passes h k m [] = Unit {0}
Passes h k m (d ∷ ds) = (GivesAll d ⊎ IsQuiet h k m d) × Passes h k (applied m d) ds

-- so are the deltas that wait, after what is published
abbrev pub IsPassed : History → Kind → Follower → Type 0
IsPassed h k f = Passes h k f.informer.published f.informer.pending

-- each move leaves it so
abbrev pub MovesPass : Type 0
MovesPass = (k : Kind) (size : ℕ) (h : History) (f : Follower) (m : Move) → IsReached h → IsFollowing h k f → IsPassed h k f → IsPassed h k (move k size h f m).follower

-- and so it is over every list of steps of clients, reflectors, cut streams, compactions and restarts
abbrev pub RunsPass : Type 0
RunsPass = (size : ℕ) (initial : InitialSync) (steps : List ClusterStep) (k : Kind) → (let c = run (opened size initial) steps in IsPassed (history c) k (follower k c))
