-- Whatever steps are taken: how a turn goes from its take to its end, and that what is looked at, read and issued in it is no older than the take.
use Rattle.std.specs.Prelude.{◌≡◌, ℕ, List, [], ◌∷◌, ◌++◌, Option, Some, None, slice_get}
use Rattle.std.specs.List.{AllByRecursion}
use Rattle.spec_api.specs.declared.kinds.Kind.{Kind}
use Rattle.spec_api.specs.History.{present, state}
use Rattle.spec_api.specs.Keys.{Key}
use Rattle.spec_api.specs.Verbs.{accept}
use Rattle.spec_server.specs.Snapshots.{Snapshot}
use Rattle.spec_client_go.specs.Commands.{Command}
use Rattle.spec_client_go.specs.Hands.{Read}
use Rattle.spec_client_go.specs.WorkQueues.{WorkKey}
use Rattle.spec_sim.specs.Clusters.{history, follower}
use Rattle.spec_sim.specs.ControlPlanes.{ControlPlane, Step, works, step, run}
use Rattle.spec_sim.specs.Managers as action
use Rattle.spec_sim.specs.Managers.{Delivery, is_satisfied_for, learnt, requested}
use Rattle.spec_sim.specs.NextSteps as next_step
use Rattle.spec_sim.specs.NextSteps.{next}
use Rattle.spec_sim.specs.Turns.{Turn, Issue, Expected, begun, looked, satisfied, with_sight, with_read, with_expected, with_issue, owner}
use Rattle.sim_worker_laws.specs.IssuedLaws.{IsSeen}
use Rattle.sim_worker_laws.specs.OwedLaws.{NoRestart}
use Rattle.sim_worker_laws.specs.TakeLaws.{HasInHand}

-- ---- one step

-- the command with its answer, as it comes through
abbrev pub issue_of : ControlPlane → Turn → Command → Delivery → Issue
issue_of p t x d = record { command = x; answer = learnt d (accept (requested t x) (history p.cluster) p.cluster.session.moment) }

-- what a step makes of the turn in a worker's hands: it stays as it is, or its next step is taken, by what is published, there or answered then
pub data Becomes (p : ControlPlane) (s : Step) (w : ℕ) (t : Turn) : Option Turn → Type 0 where
  stays : Becomes p s w t (Some t)
  looks : (k : Kind) → next t ≡ next_step.look k → Becomes p s w t (Some (with_sight (looked k (follower k p.cluster).informer.published) t))
  asks : next t ≡ next_step.ask_satisfied → Becomes p s w t (Some (with_sight (satisfied (is_satisfied_for (owner t) p.manager.board)) t))
  reads : (k : Key) → next t ≡ next_step.read k → Becomes p s w t (Some (with_read (record { key = k; found = state (history p.cluster) (present (history p.cluster)) k }) t))
  expects : (e : Expected) → next t ≡ next_step.expect e → Becomes p s w t (Some (with_expected t))
  issues : (x : Command) (d : Delivery) → s ≡ works w (action.issue d) → next t ≡ next_step.issue x → Becomes p s w t (Some (with_issue (issue_of p t x d) t))
  ends : s ≡ works w action.finish → next t ≡ next_step.finish → Becomes p s w t None

-- nothing else becomes of it, unless there is a restart
abbrev pub TurnsGoOn : Type 0
TurnsGoOn =
    (p : ControlPlane) (s : Step) (w : ℕ) (t : Turn) → NoRestart (s ∷ []) → HasInHand w t p
    → (o : Option Turn) × (slice_get (step p s).plane.manager.turns w ≡ Some o) × Becomes p s w t o

-- ---- since the take

-- at some point of these steps just this was published of a kind
abbrev pub ShownSince : ControlPlane → List Step → Kind → Snapshot → Type 0
ShownSince q steps k s = (x : List Step) × (y : List Step) × (steps ≡ x ++ y) × (s ≡ (follower k (run q x).cluster).informer.published)

-- at some point of them just this was there
abbrev pub ThereSince : ControlPlane → List Step → Read → Type 0
ThereSince q steps r =
    (x : List Step) × (y : List Step) × (steps ≡ x ++ y) × (let h = history (run q x).cluster in r.found ≡ state h (present h) r.key)

-- one of them issued it, as the next command of the turn of this key that the worker then had in hand, with the answer by what had happened then
pub record IssuedSince (q : ControlPlane) (steps : List Step) (w : ℕ) (j : WorkKey) (i : Issue) : Type 0 where
  pub before : List Step
  pub after : List Step
  pub turn : Turn
  pub delivery : Delivery
  pub is : steps ≡ before ++ works w (action.issue delivery) ∷ after
  pub hand : HasInHand w turn (run q before)
  pub next : next turn ≡ next_step.issue i.command
  pub answer : i ≡ issue_of (run q before) turn i.command delivery
  pub key : turn.work_key ≡ j
  pub looks : AllByRecursion (IsSeen (ShownSince q before)) turn.sights
  pub reads : AllByRecursion (ThereSince q before) turn.reads

-- all that was looked at, read and issued in a turn of this key is of these steps
pub record IsSince (q : ControlPlane) (steps : List Step) (w : ℕ) (j : WorkKey) (t : Turn) : Type 0 where
  pub key : t.work_key ≡ j
  pub looks : AllByRecursion (IsSeen (ShownSince q steps)) t.sights
  pub reads : AllByRecursion (ThereSince q steps) t.reads
  pub issued : AllByRecursion (IssuedSince q steps w j) t.issues
  pub first : (i : Issue) (is : List Issue) → t.issues ≡ i ∷ is → (s : IssuedSince q steps w j i) × (s.turn.issues ≡ [])

-- after these steps the turn is still in hand; or one of them ended it
pub data Goes (q : ControlPlane) (steps : List Step) (w : ℕ) (j : WorkKey) : Type 0 where
  goes_on : (t : Turn) → HasInHand w t (run q steps) → IsSince q steps w j t → Goes q steps w j
  has_ended : (during after : List Step) (t : Turn) → steps ≡ during ++ works w action.finish ∷ after → HasInHand w t (run q during) → next t ≡ next_step.finish → IsSince q during w j t
      → Goes q steps w j

-- whatever steps follow a take, unless there is a restart
abbrev pub TurnsGoFromTheirTake : Type 0
TurnsGoFromTheirTake = (q : ControlPlane) (steps : List Step) (w : ℕ) (j : WorkKey) → HasInHand w (begun j) q → NoRestart steps → Goes q steps w j
