-- Whatever steps a control plane takes: what waits to be published skips nothing; and what is left for nothing to be left to do at rest.
use Rattle.std.specs.Prelude.{◌≡◌, ◌≤◌, ℕ, List, ◌∷◌, ◌++◌, true, Some}
use Rattle.std.specs.List.{AllByRecursion}
use Rattle.spec_api.specs.declared.kinds.Kind.{Kind}
use Rattle.spec_api.specs.History.{History, Write, present, state, found}
use Rattle.spec_api.specs.Keys.{Key}
use Rattle.spec_api.specs.Verbs.{accept, write_of}
use Rattle.spec_client_go.specs.Shifts.{Shift}
use Rattle.spec_client_go.specs.WorkQueues.{WorkKey}
use Rattle.spec_sim.specs.declared.initial_syncs.InitialSync.{InitialSync}
use Rattle.spec_sim.specs.Clusters.{history, follower}
use Rattle.spec_sim.specs.ControlPlanes.{ControlPlane, Step, works, opened, run}
use Rattle.spec_sim.specs.Managers as action
use Rattle.spec_sim.specs.Managers.{answer_of, requested}
use Rattle.spec_sim.specs.NextSteps.{next, issue}
use Rattle.spec_sim.specs.Turns.{Turn, Issue}
use Rattle.sim_worker_laws.specs.TakeLaws.{HasInHand}
use Rattle.sim_cluster_laws.specs.PassLaws.{IsPassed}
use Rattle.sim_rest_laws.specs.Rests.{IsAtRest}
use Rattle.sim_rest_laws.specs.ShiftRunLaws.{Lead}
use Rattle.sim_rest_laws.specs.LastTurnLaws.{BeganOnce, IsLastTurn, at_take, since_take}
use Rattle.sim_rest_laws.specs.StillLaws.{OwedNothing, ShownIn}

abbrev pub PlanesPass : Type 0
PlanesPass = (window workers : ℕ) (initial : InitialSync) (steps : List Step) (k : Kind) → (let c = (run (opened window workers initial) steps).cluster in IsPassed (history c) k (follower k c))

-- where the first list of a kind was published, what is published names a revision
abbrev pub ListedNames : Type 0
ListedNames =
    (window workers : ℕ) (initial : InitialSync) (steps : List Step) (k : Kind)
    → (let f = follower k (run (opened window workers initial) steps).cluster in f.has_listed ≡ true → f.informer.published.revision ≡ 0 → ⊥)

-- ---- what was there since the take of a last turn

-- from what was published at a point changes lead under each key, through what was there at any later revision, to what is there in the end; none of them owed the
-- turn's key anything
abbrev pub StatesArePassed : Type 0
StatesArePassed =
    (window workers : ℕ) (initial : InitialSync) (before after : List Step) (j : WorkKey) (t : Turn)
    → (let p = run (opened window workers initial) before in
    let h = history (run p after).cluster in
    BeganOnce p after → IsAtRest (run p after) → (z : IsLastTurn p after j t)
    → (let q = at_take p after j t z in
    let steps = since_take p after j t z in
    (x y : List Step) → steps ≡ x ++ y → (key : Key) (r : ℕ)
    → (let m = (follower key.kind (run q x).cluster).informer.published in
    m.revision ≤ r → r ≤ present h
    → (ss : List Shift) × (ts : List Shift) × Lead key (found key m.members) ss (state h r key) × Lead key (state h r key) ts (state h (present h) key)
    × AllByRecursion (OwedNothing j (ShownIn q steps)) ss × AllByRecursion (OwedNothing j (ShownIn q steps)) ts)))

-- ---- what a last turn wrote

-- a command was issued and accepted, as the next one of the turn that the worker then had; and if it wrote, then from what was there under the key that it wrote changes
-- that owed the turn's key nothing lead to what it put there, and from that to what is there in the end
pub record WroteUnowed (last : History) (q : ControlPlane) (steps : List Step) (w : ℕ) (j : WorkKey) (i : Issue) : Type 0 where
  pub before : List Step
  pub after : List Step
  pub turn : Turn
  pub is : steps ≡ before ++ works w (action.issue action.delivered) ∷ after
  pub hand : HasInHand w turn (run q before)
  pub next : next turn ≡ issue i.command
  pub answer : (let c = (run q before).cluster in i.answer ≡ answer_of (accept (requested turn i.command) (history c) c.session.moment))
  pub leads : (x : Write)
      → (let c = (run q before).cluster in
      let h = history c in
      write_of (accept (requested turn i.command) h c.session.moment) ≡ Some x
      → (ss : List Shift) × (ts : List Shift) × Lead x.key (state h (present h) x.key) ss x.put × Lead x.key x.put ts (state last (present last) x.key)
      × AllByRecursion (OwedNothing j (ShownIn q steps)) ss × AllByRecursion (OwedNothing j (ShownIn q steps)) ts)

-- so was each command of a last turn: all that it wrote was published later, change by change, and handled, and owed its key nothing
abbrev pub LastWritesAreUnowed : Type 0
LastWritesAreUnowed =
    (window workers : ℕ) (initial : InitialSync) (before after : List Step) (j : WorkKey) (t : Turn)
    → (let p = run (opened window workers initial) before in
    BeganOnce p after → IsAtRest (run p after) → (z : IsLastTurn p after j t)
    → AllByRecursion (WroteUnowed (history (run p after).cluster) (at_take p after j t z) (since_take p after j t z) z.worker j) t.issues)
