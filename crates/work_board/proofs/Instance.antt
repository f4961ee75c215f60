-- What a board of work keys with expectations beside them does is what the board of controllers does.
use Rattle.std.proofs.Common.{◌≡◌, ◌≤◌, ◌+◌, ◌*◌, ◌^◌, ℕ, min, max, List, [], ◌∷◌, map, true, Bool, if◌then◌else◌, refl, sym, ap, ◌∙◌, arith}
use Rattle.spec_client_go.specs.Boards as works
use Rattle.spec_client_go.specs.Boards.{all_lowered, lowered, last_moment, may_tick, observed}
use Rattle.spec_client_go.specs.Delays as works_delays
use Rattle.spec_client_go.specs.Delays.{delay_after}
use Rattle.spec_client_go.specs.Expectations.{Table}
use Rattle.spec_client_go.specs.WorkQueues.{WorkKey, work_key_cmp}
use Rattle.keyed_queues.specs.Delays.{delayed, still_delayed}
use Rattle.keyed_queues.specs.Failures.{failures, failed}
use Rattle.keyed_queues.specs.Queues.{added_all}
use Rattle.keyed_queues.specs.WorkLaws.{work_queue}
use Rattle.keyed_queues.proofs.WorkDelays.{same_due}
use Rattle.keyed_queues.proofs.WorkQueues.{done_is, added_all_are}
use Rattle.boards.specs.Boards.{KeyBoard, all_noted, with_notes, with_keys, finished, passed, ticked}
use Rattle.boards.specs.declared.outcome.Outcome.TheVariants.{Failed}
use Rattle.work_board.specs.Instance.{work_board}
use Rattle.work_board.specs.Later.{requeued_after}
use Rattle.work_board.specs.Seen.{observation_of}
use Rattle.work_board.specs.declared.observation.Observation.{Observation}

-- what is noted of an observation
abbrev pub noted : Observation → Table → Table
noted s t = lowered (observation_of s) t

-- what is observed is what is noted
noted_are : (ss : List Observation) (t : Table) → all_noted noted ss t ≡ all_lowered (map observation_of ss) t
noted_are [] t = refl
noted_are (s ∷ ss) t = noted_are ss (lowered (observation_of s) t)

pub observes : (ss : List Observation) (ks : List WorkKey) (b : KeyBoard work_key_cmp Table) → work_board (with_notes noted ss (with_keys ks b)) ≡ observed (map observation_of ss) ks (work_board b)
observes ss ks b = λ i. record { work = added_all_are ks b.work i; delays = b.delays; failures = b.failures; expected = noted_are ss b.side i; time = b.time }

-- ---- a key that failed

no_longer : (f : ℕ) → delay_after f ≤ 1000000
no_longer f = by (5 * 2 ^ f)
  where
    by : (d : ℕ) → min d 1000000 ≤ 1000000
    by d = grind arith

-- moments of the board end long before those of its keys do
no_end : (time d least : ℕ) → time ≤ 9007199254740991 → d ≤ 1000000 → least ≤ 4294967295 → min (time + max d least) 18446744073709551615 ≡ time + max d least
no_end time d least h i j = grind (arith, h, i, j)

pub requeues : (k : WorkKey) (ss : List Observation) (least : ℕ) (b : KeyBoard work_key_cmp Table) → b.time ≤ last_moment → least ≤ 4294967295
    → work_board (with_notes noted ss (finished k (Failed least) b)) ≡ requeued_after k (map observation_of ss) least (work_board b)
requeues k ss least b h j =
    let at = no_end b.time (delay_after (failures k b.failures)) least h (no_longer (failures k b.failures)) j in
    λ i. record { work = done_is k b.work i; delays = delayed k (at i) b.delays; failures = failed k b.failures; expected = noted_are ss b.side i; time = b.time }

-- ---- time

later : (time n : ℕ) → max time (time + n) ≡ time + n
later time n = grind arith

pub ticks : (n : ℕ) (b : KeyBoard work_key_cmp Table) → may_tick n (work_board b) ≡ true → work_board (ticked (b.time + n) b) ≡ works.ticked n (work_board b)
ticks n b h =
    ap (λ now. work_board (passed now b)) (later b.time n)
    ∙ (λ i. record {
      work = (ap (λ ks. work_queue (added_all ks b.work)) (same_due (b.time + n) b.delays) ∙ added_all_are (works_delays.due (b.time + n) b.delays) b.work) i;
      delays = still_delayed (b.time + n) b.delays;
      failures = b.failures;
      expected = b.side;
      time = b.time + n;
    })
    ∙ ap (λ (m : Bool). if m then works.passed (b.time + n) (work_board b) else work_board b) (sym h)
