-- A board of work keys with expectations beside it is the board that controllers share.
use Rattle.std.specs.Prelude.{◌≡◌, ◌≤◌, ◌+◌, ℕ, List, max, true}
use Rattle.std.specs.FinMap as map
use Rattle.spec_client_go.specs.Delays as works_delays
use Rattle.spec_client_go.specs.Delays.{delay_after, delayed}
use Rattle.spec_client_go.specs.Expectations.{Table}
use Rattle.spec_client_go.specs.WorkQueues.{WorkKey, work_key_cmp}
use Rattle.spec_client_go.specs.Boards as works
use Rattle.spec_client_go.specs.Boards.{Board, Observation, all_lowered, last_moment, may_tick}
use Rattle.keyed_queues.specs.WorkLaws.{work_queue}
use Rattle.keyed_board.specs.Patience.{milliseconds_asked}
use Rattle.keyed_board.specs.Boards.{KeyBoard, begun, with_keys, taken, finished, ticked}
use Rattle.keyed_board.specs.declared.failure.Failure.{Failure}
use Rattle.keyed_board.specs.declared.outcome.Outcome.TheVariants.{Done, Failed}

-- the board of controllers, of a board of work keys and of what is expected
abbrev pub work_board : Table → KeyBoard work_key_cmp → Board
work_board t b = record { work = work_queue b.work; delays = b.delays; failures = b.failures; expected = t; time = b.time }

-- a server asks for 2^16 - 1 seconds at most
abbrev pub longest_asked : ℕ
longest_asked = 65535000

-- a key that failed waits for its delay, and for at least so many milliseconds
abbrev pub requeued_after : WorkKey → List Observation → ℕ → Board → Board
requeued_after k ss least b = record (works.requeued k ss b) { delays = delayed k (b.time + max (delay_after (works_delays.failures k b.failures)) least) b.delays }

-- it begins so, and each step of the one is a step of the other: keys are added, taken, finished, tried again, and time passes
pub record AreWorkBoards : Type 0 where
  pub begins : work_board map.empty begun ≡ works.begun
  pub adds : (ss : List Observation) (ks : List WorkKey) (t : Table) (b : KeyBoard work_key_cmp) → work_board (all_lowered ss t) (with_keys ks b) ≡ works.observed ss ks (work_board t b)
  pub takes : (t : Table) (b : KeyBoard work_key_cmp) → work_board t (taken b) ≡ works.taken (work_board t b)
  pub finishes : (k : WorkKey) (t : Table) (b : KeyBoard work_key_cmp) → work_board t (finished k Done b) ≡ works.finished k (work_board t b)
  pub fails : (k : WorkKey) (failure : Failure) (ss : List Observation) (t : Table) (b : KeyBoard work_key_cmp) → b.time ≤ last_moment → milliseconds_asked failure ≤ longest_asked
      → work_board (all_lowered ss t) (finished k (Failed failure) b) ≡ requeued_after k ss (milliseconds_asked failure) (work_board t b)
  pub ticks : (n : ℕ) (t : Table) (b : KeyBoard work_key_cmp) → may_tick n (work_board t b) ≡ true → work_board t (ticked (b.time + n) b) ≡ works.ticked n (work_board t b)
