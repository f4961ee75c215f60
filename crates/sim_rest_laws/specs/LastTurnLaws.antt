-- At rest: the last turn of each key that a change owed.
use Rattle.std.specs.Prelude.{◌≡◌, ℕ, List, [], ◌∷◌, ◌++◌, map, true, false, Some}
use Rattle.spec_api.specs.declared.kinds.Kind.{Kind}
use Rattle.spec_api.specs.History.{present, list, found}
use Rattle.spec_api.specs.Keys.{Key}
use Rattle.spec_client_go.specs.WorkQueues.{WorkKey}
use Rattle.spec_laws.specs.SentLaws.{whole}
use Rattle.spec_sim.specs.declared.initial_syncs.InitialSync.{InitialSync}
use Rattle.spec_sim.specs.Clusters.{history}
use Rattle.spec_sim.specs.Followers.{Notification}
use Rattle.spec_sim.specs.ControlPlanes.{ControlPlane, Step, handle, works, opened, step, run, owed}
use Rattle.spec_sim.specs.Managers as action
use Rattle.spec_sim.specs.NextSteps.{first, order, next, finish}
use Rattle.spec_sim.specs.Turns.{Turn, begun, asks, commands, all_accepted}
use Rattle.sim_worker_laws.specs.IssuedLaws.{sighting_of, commands_of}
use Rattle.sim_worker_laws.specs.OwedLaws.{IsAmong, unhandled, NoRestart, was_taken}
use Rattle.sim_worker_laws.specs.TakeLaws.{HasInHand}
use Rattle.sim_rest_laws.specs.Rests.{IsAtRest}
use Rattle.sim_rest_laws.specs.ShiftRunLaws.{members, all_deltas, all_published, OnlyTheFirst, HasNothing, Lead, shifts}
use Rattle.sim_rest_laws.specs.TurnRunLaws.{IsSince}

-- ---- what was owed

-- after some of these steps a change of a kind was handled
pub record WasHandled (p : ControlPlane) (steps : List Step) (k : Kind) (n : Notification) : Type 0 where
  pub before : List Step
  pub after : List Step
  pub is : steps ≡ before ++ handle k ∷ after
  pub oldest : first (unhandled k (run p before)) ≡ Some n

-- it owed a key, by what was published then
abbrev pub OwedIt : (p : ControlPlane) (steps : List Step) (k : Kind) (n : Notification) → WorkKey → WasHandled p steps k n → Type 0
OwedIt p steps k n j x = IsAmong j (owed (run p x.before).cluster n)

-- ---- the last turn

-- a worker took the key, all that it then looked at, read and issued in its turn came after the take, all commands of its plan were issued and accepted, the
-- turn ended, and the key was not taken again
pub record IsLastTurn (p : ControlPlane) (steps : List Step) (j : WorkKey) (t : Turn) : Type 0 where
  pub before : List Step
  pub during : List Step
  pub after : List Step
  pub worker : ℕ
  pub is : steps ≡ before ++ works worker action.take ∷ (during ++ works worker action.finish ∷ after)
  pub taken : HasInHand worker (begun j) (step (run p before) (works worker action.take)).plane
  pub none : NoRestart (during ++ works worker action.finish ∷ after)
  pub since : IsSince (step (run p before) (works worker action.take)).plane during worker j t
  pub hand : HasInHand worker t (run (step (run p before) (works worker action.take)).plane during)
  pub ends : next t ≡ finish
  pub seen : map sighting_of t.sights ≡ order j.controller
  pub read : asks t ≡ []
  pub issued : commands_of t.issues ≡ commands t
  pub accepted : all_accepted t.issues ≡ true
  pub last : was_taken j (step (run p before) (works worker action.take)).plane (during ++ works worker action.finish ∷ after) ≡ false

-- the plane just after its take, and the steps since
abbrev pub at_take : (p : ControlPlane) (steps : List Step) (j : WorkKey) (t : Turn) → IsLastTurn p steps j t → ControlPlane
at_take p steps j t x = (step (run p x.before) (works x.worker action.take)).plane

abbrev pub since_take : (p : ControlPlane) (steps : List Step) (j : WorkKey) (t : Turn) → IsLastTurn p steps j t → List Step
since_take p steps j t x = x.during ++ works x.worker action.finish ∷ x.after

-- ---- changes after it

-- a change that was handled in these steps, and did not owe the key
abbrev pub IsUnowed : ControlPlane → List Step → WorkKey → Kind → Notification → Type 0
IsUnowed p steps j k n = (x : WasHandled p steps k n) × (OwedIt p steps k n j x → ⊥)

-- from whatever was published at a point of these steps, changes lead under each key to what is there in the end; each of them was published after that
-- point and handled after it, and none of them owed the key
pub record IsSettled (q : ControlPlane) (steps : List Step) (j : WorkKey) : Type 0 where
  pub leads : (x y : List Step) → steps ≡ x ++ y → (k : Kind) (key : Key)
      → (let h = history (run q steps).cluster in Lead key (found key (members k (run q x))) (shifts (all_published k (run q x) y)) (found key (list h (whole k) (present h))))
  pub unowed : (x y : List Step) → steps ≡ x ++ y → (k : Kind) (n : Notification) → IsAmong n (all_published k (run q x) y) → IsUnowed (run q x) y j k n

-- ---- at rest

-- where all is at rest, each change that was published since the last restart was handled, and each key that it then owed had its last turn after that
abbrev pub OwedKeysHadTheirTurn : Type 0
OwedKeysHadTheirTurn =
    (window workers : ℕ) (initial : InitialSync) (before after : List Step) (k : Kind) (n : Notification)
    → (let p = run (opened window workers initial) before in
    IsAtRest (run p after) → NoRestart after → IsAmong n (all_published k p after)
    → (x : WasHandled p after k n)
    × ((j : WorkKey) → OwedIt p after k n j x → (t : Turn) × IsLastTurn (step (run p x.before) (handle k)).plane x.after j t))

-- since the followers began, no delta but the first of each kind gave the whole map
pub record BeganOnce (p : ControlPlane) (steps : List Step) : Type 0 where
  pub nothing : (k : Kind) → HasNothing k p
  pub none : NoRestart steps
  pub once : (k : Kind) → OnlyTheFirst (all_deltas k p steps)

-- so all is settled since the take of each key's last turn
abbrev pub LastTurnsAreSettled : Type 0
LastTurnsAreSettled =
    (window workers : ℕ) (initial : InitialSync) (before between steps : List Step) (j : WorkKey) (t : Turn)
    → (let p = run (opened window workers initial) before in
    let q = run p between in
    BeganOnce p (between ++ steps) → IsAtRest (run q steps) → (x : IsLastTurn q steps j t) → IsSettled (at_take q steps j t x) (since_take q steps j t x) j)
