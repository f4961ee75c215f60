-- Keys that are given back and wait longer than their delay.
use Rattle.std.specs.Prelude.{◌≡◌, ℕ, ◌+◌, List, max}
use Rattle.spec_client_go.specs.Boards.{Board, Observation, all_lowered, requeued}
use Rattle.spec_client_go.specs.Delays.{delay_after, delayed, failures, failed}
use Rattle.spec_client_go.specs.WorkQueues as queues
use Rattle.spec_client_go.specs.WorkQueues.{WorkKey}

-- something failed: the key leaves the worker's hands and waits for its delay, and for at least so many milliseconds, and what was not done is expected no
-- longer. A key that was delayed already keeps its moment, where that is earlier
abbrev pub requeued_after : WorkKey → List Observation → ℕ → Board → Board
requeued_after k ss least b =
    record b {
      work = queues.done k b.work;
      delays = delayed k (b.time + max (delay_after (failures k b.failures)) least) b.delays;
      failures = failed k b.failures;
      expected = all_lowered ss b.expected;
    }

-- where it is to wait for no more than its delay, it is tried again as any key that failed
abbrev pub WaitsForItsDelay : Type 0
WaitsForItsDelay = (k : WorkKey) (ss : List Observation) (b : Board) → requeued_after k ss 0 b ≡ requeued k ss b
