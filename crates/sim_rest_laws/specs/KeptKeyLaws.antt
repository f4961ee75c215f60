-- Whatever steps are taken: a key that is to be processed is queued or in hand, and one whose turn did not go well is not forgotten.
use Rattle.std.specs.Prelude.{◌≡◌, ◌||◌, ℕ, List, Bool, true, false, is_some}
use Rattle.std.specs.FinMap as map
use Rattle.spec_client_go.specs.WorkQueues.{WorkKey}
use Rattle.spec_laws.specs.WorkQueueLaws.{is_queued}
use Rattle.spec_sim.specs.declared.initial_syncs.InitialSync.{InitialSync}
use Rattle.spec_sim.specs.ControlPlanes.{ControlPlane, Step, works, opened, step, run}
use Rattle.spec_sim.specs.Managers as action
use Rattle.spec_sim.specs.NextSteps.{next, finish}
use Rattle.spec_sim.specs.Turns.{Turn, all_accepted}
use Rattle.sim_worker_laws.specs.OwedLaws.{NoRestart, is_dirty, was_taken}
use Rattle.sim_worker_laws.specs.TakeLaws.{HasInHand}
use Rattle.sim_worker_laws.specs.TurnLaws.{is_in_hands}
use Rattle.sim_rest_laws.specs.Rests.{IsAtRest}

-- over every list of steps, a key that is to be processed is queued, or in a worker's hands
abbrev pub DirtyKeysAreQueuedOrInHand : Type 0
DirtyKeysAreQueuedOrInHand =
    (window workers : ℕ) (initial : InitialSync) (steps : List Step) (j : WorkKey)
    → (let p = run (opened window workers initial) steps in is_dirty j p ≡ true → (is_queued p.manager.board.work j || is_in_hands j p.manager.turns) ≡ true)

-- so none is where all is at rest
abbrev pub NothingIsDirtyAtRest : Type 0
NothingIsDirtyAtRest =
    (window workers : ℕ) (initial : InitialSync) (steps : List Step) (j : WorkKey) → (let p = run (opened window workers initial) steps in IsAtRest p → is_dirty j p ≡ false)

-- a key waits for its delay
abbrev pub is_delayed : WorkKey → ControlPlane → Bool
is_delayed j p = is_some (map.get p.manager.board.delays j)

-- a worker comes to the end of a turn in which not all was accepted
abbrev pub EndsByRetry : ℕ → Turn → ControlPlane → Type 0
EndsByRetry w t p = HasInHand w t p × (next t ≡ finish) × (all_accepted t.issues ≡ false)

-- over every list of steps, the key of a turn that ended so is delayed, or is to be processed, or was taken since, unless there was a restart
abbrev pub RetriesAreKept : Type 0
RetriesAreKept =
    (window workers : ℕ) (initial : InitialSync) (before after : List Step) (w : ℕ) (t : Turn)
    → (let p = run (opened window workers initial) before in
    EndsByRetry w t p → NoRestart after
    → (let q = (step p (works w action.finish)).plane in let j = t.work_key in (is_delayed j (run q after) || (is_dirty j (run q after) || was_taken j q after)) ≡ true))
