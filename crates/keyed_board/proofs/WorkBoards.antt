-- Each step of a board of work keys is a step of the board that controllers share.
use Rattle.std.proofs.Common.{◌≡◌, ℕ, ◌+◌, ◌*◌, ◌^◌, ◌≤◌, min, max, List, true, Bool, if◌then◌else◌, refl, sym, ap, ◌∙◌, arith}
use Rattle.spec_client_go.specs.Delays as works_delays
use Rattle.spec_client_go.specs.Delays.{delay_after}
use Rattle.spec_client_go.specs.Expectations.{Table}
use Rattle.spec_client_go.specs.WorkQueues.{WorkKey, work_key_cmp}
use Rattle.spec_client_go.specs.Boards as works
use Rattle.spec_client_go.specs.Boards.{Board, Observation, all_lowered, last_moment, may_tick, passed}
use Rattle.keyed_queues.specs.Failures.{failures, failed}
use Rattle.keyed_queues.specs.Delays.{delayed, still_delayed}
use Rattle.keyed_queues.specs.Queues.{added_all}
use Rattle.keyed_queues.specs.WorkLaws.{work_queue}
use Rattle.keyed_queues.proofs.WorkDelays.{same_due}
use Rattle.keyed_queues.proofs.WorkQueues.{got_is, done_is, added_all_are}
use Rattle.keyed_board.specs.Boards as boards
use Rattle.keyed_board.specs.Boards.{KeyBoard, with_keys, taken, finished, ticked}
use Rattle.keyed_board.specs.Patience.{milliseconds_asked}
use Rattle.keyed_board.specs.WorkLaws.{work_board, AreWorkBoards, longest_asked, requeued_after}
use Rattle.keyed_board.specs.declared.failure.Failure.{Failure}
use Rattle.keyed_board.specs.declared.outcome.Outcome.TheVariants.{Failed}

no_longer : (f : ℕ) → delay_after f ≤ 1000000
no_longer f = by (5 * 2 ^ f)
  where
    by : (d : ℕ) → min d 1000000 ≤ 1000000
    by d = grind arith

no_end : (time d least : ℕ) → time ≤ 9007199254740991 → d ≤ 1000000 → least ≤ 65535000 → min (time + max d least) 18446744073709551615 ≡ time + max d least
no_end time d least h i j = grind (arith, h, i, j)

later : (time n : ℕ) → max time (time + n) ≡ time + n
later time n = grind arith

fails_alike : (k : WorkKey) (failure : Failure) (ss : List Observation) (t : Table) (b : KeyBoard work_key_cmp) → b.time ≤ last_moment → milliseconds_asked failure ≤ longest_asked
    → work_board (all_lowered ss t) (finished k (Failed failure) b) ≡ requeued_after k ss (milliseconds_asked failure) (work_board t b)
fails_alike k failure ss t b h asked =
    let at = no_end b.time (delay_after (failures k b.failures)) (milliseconds_asked failure) h (no_longer (failures k b.failures)) asked in
    λ i. record { work = done_is k b.work i; delays = delayed k (at i) b.delays; failures = failed k b.failures; expected = all_lowered ss t; time = b.time }

ticks_alike : (n : ℕ) (t : Table) (b : KeyBoard work_key_cmp) → may_tick n (work_board t b) ≡ true → work_board t (ticked (b.time + n) b) ≡ works.ticked n (work_board t b)
ticks_alike n t b h =
    ap (λ now. work_board t (boards.passed now b)) (later b.time n)
    ∙ (λ i. record {
      work = (ap (λ ks. work_queue (added_all ks b.work)) (same_due (b.time + n) b.delays) ∙ added_all_are (works_delays.due (b.time + n) b.delays) b.work) i;
      delays = still_delayed (b.time + n) b.delays;
      failures = b.failures;
      expected = t;
      time = b.time + n;
    })
    ∙ ap (λ (m : Bool). if m then passed (b.time + n) (work_board t b) else work_board t b) (sym h)

pub are_work_boards : AreWorkBoards
are_work_boards = record {
  begins = refl;
  adds = λ ss ks t b. ap (λ w. record { work = w; delays = b.delays; failures = b.failures; expected = all_lowered ss t; time = b.time }) (added_all_are ks b.work);
  takes = λ t b. ap (λ w. record { work = w; delays = b.delays; failures = b.failures; expected = t; time = b.time }) (got_is b.work);
  finishes = λ k t b. ap (λ w. record (works.finished k (work_board t b)) { work = w }) (done_is k b.work);
  fails = fails_alike;
  ticks = ticks_alike;
}
