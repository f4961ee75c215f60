-- Whatever steps are taken: no key is in two workers' hands.
use Rattle.std.specs.Prelude.{◌≡◌, ℕ, List, Bool, false, Option, Some, None, slice_get}
use Rattle.std.specs.FinSet as set
use Rattle.std.specs.List.{list_any}
use Rattle.std.specs.Ordering.{eq_by_cmp}
use Rattle.spec_client_go.specs.WorkQueues.{WorkKey, work_key_cmp}
use Rattle.spec_sim.specs.declared.initial_syncs.InitialSync.{InitialSync}
use Rattle.spec_sim.specs.ControlPlanes.{Step, opened, run}
use Rattle.spec_sim.specs.Managers.{Manager}
use Rattle.spec_sim.specs.Turns.{Turn}

-- whether a turn is of a key
abbrev pub is_of : WorkKey → Option Turn → Bool
is_of k None = false
is_of k (Some t) = eq_by_cmp work_key_cmp k t.work_key

-- whether a key is in some worker's hands
abbrev pub is_in_hands : WorkKey → List (Option Turn) → Bool
is_in_hands k ts = list_any (is_of k) ts

-- two workers with one key in their hands are one
abbrev pub AreApart : List (Option Turn) → Type 0
AreApart turns = (v w : ℕ) (a b : Turn) → slice_get turns v ≡ Some (Some a) → slice_get turns w ≡ Some (Some b) → a.work_key ≡ b.work_key → v ≡ w

-- over every list of steps, no key is in two workers' hands
abbrev pub HandsAreApart : Type 0
HandsAreApart = (window workers : ℕ) (initial : InitialSync) (steps : List Step) → AreApart (run (opened window workers initial) steps).manager.turns

-- the keys that the queue holds to be processed are those in workers' hands
abbrev pub ProcessesHands : Manager → Type 0
ProcessesHands m = (k : WorkKey) → set.contains m.board.work.processing k ≡ is_in_hands k m.turns

-- and so it is over every list of steps
abbrev pub ProcessingIsInHands : Type 0
ProcessingIsInHands = (window workers : ℕ) (initial : InitialSync) (steps : List Step) → ProcessesHands (run (opened window workers initial) steps).manager
