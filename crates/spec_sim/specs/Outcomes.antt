-- What is told of the steps of a control plane.
use Rattle.std.specs.Prelude.{ℕ, List, Bool, true, false, Option}
use Rattle.spec_api.specs.declared.kinds.Kind.{Kind}
use Rattle.spec_api.specs.Keys.{Key}
use Rattle.spec_client_go.specs.Commands.{Command}
use Rattle.spec_client_go.specs.WorkQueues.{WorkKey}
use Rattle.spec_sim.specs.Moves as moves
use Rattle.spec_sim.specs.Turns.{Answer}

-- what is told of a step of the cluster; how many keys a change of a kind owed; what a worker did: the key that it took, if one was
-- queued, the revision of its look at a kind, the answer whether all expected pods have been seen, the version that a live read of a
-- key found, how many pods it expects to be created and deleted, the command that it issued, with the answer, and whether all went
-- well at the end; and what time it is, in milliseconds
pub data Outcome : Type 0 where
  of_cluster : moves.Outcome → Outcome
  handled : Kind → ℕ → Outcome
  took : ℕ → Option WorkKey → Outcome
  looked : ℕ → Kind → ℕ → Outcome
  satisfied : ℕ → Bool → Outcome
  read : ℕ → Key → Option (List ℕ) → Outcome
  expected : ℕ → ℕ → ℕ → Outcome
  issued : ℕ → Command → Answer → Outcome
  finished : ℕ → Bool → Outcome
  time : ℕ → Outcome

-- the step was not open
abbrev pub no_step : Outcome
no_step = of_cluster moves.no_step

abbrev pub was_open : Outcome → Bool
was_open (of_cluster moves.no_step) = false
was_open o = true
