-- A key that is to wait for no longer than its delay.
use Rattle.std.proofs.Common.{◌≡◌, ◌+◌, ℕ, ap, arith}
use Rattle.std.specs.Prelude.{max}
use Rattle.spec_client_go.specs.Boards.{all_lowered}
use Rattle.spec_client_go.specs.Delays.{delay_after, delayed, failures, failed}
use Rattle.spec_client_go.specs.WorkQueues as queues
use Rattle.work_board.specs.Later.{WaitsForItsDelay}

max_none : (n : ℕ) → max n 0 ≡ n
max_none n = omega (arith)

pub waits_for_its_delay : WaitsForItsDelay
waits_for_its_delay k ss b =
    ap (λ d. record b {
      work = queues.done k b.work;
      delays = delayed k (b.time + d) b.delays;
      failures = failed k b.failures;
      expected = all_lowered ss b.expected;
    }) (max_none (delay_after (failures k b.failures)))
