-- What the steps of a control plane do, and what they do not.
use Rattle.std.specs.Prelude.{◌≡◌, ◌+◌, ℕ, List, length, true, false, Some, slice_get}
use Rattle.spec_api.specs.declared.kinds.Kind.{Kind}
use Rattle.spec_laws.specs.DueLaws.{IsDue}
use Rattle.spec_client_go.specs.WorkQueues.{WorkKey}
use Rattle.spec_client_go.specs.Boards as boards
use Rattle.spec_client_go.specs.Boards.{may_tick}
use Rattle.spec_sim.specs.declared.initial_syncs.InitialSync.{InitialSync}
use Rattle.spec_sim.specs.Clusters.{follower, restart}
use Rattle.spec_sim.specs.Followers as followers
use Rattle.spec_sim.specs.Followers.{Notification}
use Rattle.spec_sim.specs.ControlPlanes.{ControlPlane, Step, in_cluster, handle, tick, opened, step, run}
use Rattle.spec_sim.specs.NextSteps.{first}
use Rattle.spec_sim.specs.Outcomes.{was_open}
use Rattle.spec_sim.specs.Turns.{Turn}
use Rattle.sim_worker_laws.specs.OwedLaws.{unhandled, is_dirty}

-- a step that is not open changes nothing
abbrev pub ClosedStepsChangeNothing : Type 0
ClosedStepsChangeNothing = (p : ControlPlane) (s : Step) → was_open (step p s).outcome ≡ false → (step p s).plane ≡ p

-- one that is open is counted
abbrev pub OpenStepsAreCounted : Type 0
OpenStepsAreCounted = (p : ControlPlane) (s : Step) → was_open (step p s).outcome ≡ true → (step p s).plane.taken ≡ p.taken + 1

-- a restart leaves what has happened at the server, how followers begin, what was issued, and as many workers; and nothing else
abbrev pub RestartsBeginAnew : Type 0
RestartsBeginAnew =
    (p : ControlPlane)
    → (let q = (step p (in_cluster restart)).plane in
    (q.cluster.session ≡ p.cluster.session) × (q.cluster.initial ≡ p.cluster.initial) × (q.manager.issued ≡ p.manager.issued) × (length q.manager.turns ≡ length p.manager.turns)
    × (q.manager.board ≡ boards.begun) × ((w : ℕ) (t : Turn) → slice_get q.manager.turns w ≡ Some (Some t) → ⊥) × ((k : Kind) → follower k q.cluster ≡ followers.begun p.cluster.initial k))

-- a change of the first list shows nothing of expected pods
abbrev pub FirstListsShowNothing : Type 0
FirstListsShowNothing =
    (p : ControlPlane) (k : Kind) (n : Notification) → first (unhandled k p) ≡ Some n → n.is_in_initial_list ≡ true
    → (step p (handle k)).plane.manager.board.expected ≡ p.manager.board.expected

-- over every list of steps, a tick moves the time on, and each key whose moment has come then is dirty
abbrev pub TicksAddWhatIsDue : Type 0
TicksAddWhatIsDue =
    (window workers : ℕ) (initial : InitialSync) (steps : List Step) (n : ℕ)
    → (let p = run (opened window workers initial) steps in
    let b = p.manager.board in
    let q = (step p (tick n)).plane in
    may_tick n b ≡ true → (q.manager.board.time ≡ b.time + n) × ((k : WorkKey) → IsDue (b.time + n) b.delays k → is_dirty k q ≡ true))
