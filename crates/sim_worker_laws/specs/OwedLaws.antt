-- Whatever steps are taken: no published change is forgotten.
use Rattle.std.specs.Prelude.{◌≡◌, ◌⊎◌, ◌||◌, ◌==◌, ℕ, List, [], ◌∷◌, ◌++◌, Bool, true, false, Some, if◌then◌else◌}
use Rattle.std.specs.FinSet as set
use Rattle.spec_api.specs.declared.kinds.Kind.{Kind}
use Rattle.spec_client_go.specs.WorkQueues.{WorkKey}
use Rattle.spec_laws.specs.WorkQueueLaws.{is_key}
use Rattle.spec_sim.specs.declared.initial_syncs.InitialSync.{InitialSync}
use Rattle.spec_sim.specs.Clusters.{Cluster, follower, moves, restart}
use Rattle.spec_sim.specs.Followers.{Notification, notifications}
use Rattle.spec_sim.specs.Moves.{publish}
use Rattle.spec_sim.specs.ControlPlanes.{ControlPlane, Step, in_cluster, handle, opened, step, run, owed}
use Rattle.spec_sim.specs.NextSteps.{first}
use Rattle.spec_sim.specs.Outcomes.{Outcome, took}

abbrev pub IsAmong : {A : Type 0} → A → List A → Type 0
IsAmong a [] = ⊥
IsAmong a (b ∷ bs) = (b ≡ a) ⊎ IsAmong a bs

-- the changes of a kind that are still to be handled, the oldest first
abbrev pub unhandled : Kind → ControlPlane → List Notification
unhandled k p = (follower k p.cluster).unhandled

-- what a publication changes, where it is open
abbrev pub published : Kind → Cluster → List Notification
published k c =
    let f = follower k c in
    if f.reflector.revision == 0 then [] else notifications f.has_listed f.informer.published.members f.informer.pending

-- no step but a restart
abbrev pub NoRestart : List Step → Type 0
NoRestart [] = Unit {0}
NoRestart (in_cluster restart ∷ ss) = ⊥
NoRestart (s ∷ ss) = NoRestart ss

-- ---- keys that are taken

abbrev pub tells_taken : WorkKey → Outcome → Bool
tells_taken j (took w k) = is_key j k
tells_taken j o = false

-- whether one of these steps hands a key to a worker
abbrev pub was_taken : WorkKey → ControlPlane → List Step → Bool
was_taken j p [] = false
was_taken j p (s ∷ ss) = tells_taken j (step p s).outcome || was_taken j (step p s).plane ss

abbrev pub is_dirty : WorkKey → ControlPlane → Bool
is_dirty j p = set.contains p.manager.board.work.dirty j

-- ---- changes that are kept

-- after these steps a change of a kind is still to be handled; or one of them handled it, and each key that it owed, by what was published
-- then, is dirty, or was taken after that
pub data IsKept (p : ControlPlane) (steps : List Step) (k : Kind) (n : Notification) : Type 0 where
  waits : IsAmong n (unhandled k (run p steps)) → IsKept p steps k n
  was_handled : (before after : List Step) → steps ≡ before ++ handle k ∷ after → first (unhandled k (run p before)) ≡ Some n
      → ((j : WorkKey) → IsAmong j (owed (run p before).cluster n)
      → (let q = (step (run p before) (handle k)).plane in (is_dirty j (run q after) || was_taken j q after) ≡ true))
      → IsKept p steps k n

-- over every list of steps, each change that was published since the last restart is kept
abbrev pub NothingIsForgotten : Type 0
NothingIsForgotten =
    (window workers : ℕ) (initial : InitialSync) (before after : List Step) (k : Kind) (n : Notification)
    → (let p = run (opened window workers initial) before in
    IsAmong n (published k p.cluster) → NoRestart after → IsKept (step p (in_cluster (moves k publish))).plane after k n)
