-- A board of keys of any type, with a side table of any kind beside them that is stepped with it: what workers share (client-go, util/workqueue).
use Rattle.std.specs.Prelude.{ℕ, ◌+◌, ◌-◌, ◌^◌, List, [], ◌∷◌, min, max, Option, option_map}
use Rattle.std.specs.FinMap as map
use Rattle.std.specs.declared.cmp.Ordering.{Ordering}
use Rattle.spec_client_go.specs.Delays.{delay_after}
use Rattle.keyed_queues.specs.Queues.{KeyQueue, idle, added_all, got, done, shut}
use Rattle.keyed_queues.specs.Delays.{KeyDelays, delayed, due, next_moment, still_delayed}
use Rattle.keyed_queues.specs.Failures.{KeyFailures, failures, failed}
use Rattle.boards.specs.declared.outcome.Outcome.{Outcome}
use Rattle.boards.specs.declared.outcome.Outcome.TheVariants.{Done, LookAgain, Failed}

-- the work queue, the keys with a delay, how often each key failed in a row, the side table, and the time in milliseconds
pub record KeyBoard {N : Type 0} (R : N → N → Ordering) (T : Type 0) : Type 0 where
  pub work : KeyQueue R
  pub delays : KeyDelays R
  pub failures : KeyFailures R
  pub side : T
  pub time : ℕ

abbrev pub begun : {N T : Type 0} {R : N → N → Ordering} → T → KeyBoard R T
begun t = record { work = idle; delays = map.empty; failures = map.empty; side = t; time = 0 }

-- ---- the side table

-- notes are noted one after another
abbrev pub all_noted : {M T : Type 0} → (M → T → T) → List M → T → T
all_noted note [] t = t
all_noted note (m ∷ ms) t = all_noted note ms (note m t)

abbrev pub with_notes : {N M T : Type 0} {R : N → N → Ordering} → (M → T → T) → List M → KeyBoard R T → KeyBoard R T
with_notes note ms b = record b { side = all_noted note ms b.side }

-- ---- keys that are to be looked at

-- keys are added one after another
abbrev pub with_keys : {N T : Type 0} {R : N → N → Ordering} → List N → KeyBoard R T → KeyBoard R T
with_keys ks b = record b { work = added_all ks b.work }

-- the moment so many milliseconds from now; moments end at 2^64 - 1
abbrev pub moment_in : {N T : Type 0} {R : N → N → Ordering} → ℕ → KeyBoard R T → ℕ
moment_in milliseconds b = min (b.time + milliseconds) (2 ^ 64 - 1)

-- a key is to be added then
abbrev pub postponed : {N T : Type 0} {R : N → N → Ordering} → N → ℕ → KeyBoard R T → KeyBoard R T
postponed k milliseconds b = record b { delays = delayed k (moment_in milliseconds b) b.delays }

-- ---- a worker's turn

-- the next key goes into a worker's hands
abbrev pub taken : {N T : Type 0} {R : N → N → Ordering} → KeyBoard R T → KeyBoard R T
taken b = record b { work = got b.work }

-- a key leaves a worker's hands
abbrev pub given_back : {N T : Type 0} {R : N → N → Ordering} → N → KeyBoard R T → KeyBoard R T
given_back k b = record b { work = done k b.work }

abbrev pub forgotten : {N T : Type 0} {R : N → N → Ordering} → N → KeyBoard R T → KeyBoard R T
forgotten k b = record b { failures = map.remove b.failures k }

abbrev pub counted : {N T : Type 0} {R : N → N → Ordering} → N → KeyBoard R T → KeyBoard R T
counted k b = record b { failures = failed k b.failures }

-- the key leaves the worker's hands. Its failures are forgotten, unless this is one more; where it is to be looked at again, it
-- waits so long, and after a failure as long as its failures before tell, and for at least so many milliseconds
abbrev pub finished : {N T : Type 0} {R : N → N → Ordering} → N → Outcome → KeyBoard R T → KeyBoard R T
finished k Done b = forgotten k (given_back k b)
finished k (LookAgain milliseconds) b = postponed k milliseconds (forgotten k (given_back k b))
finished k (Failed at_least) b = counted k (postponed k (max (delay_after (failures k b.failures)) at_least) (given_back k b))

-- ---- time

-- it is this moment, and the keys whose moment has come are added
abbrev pub passed : {N T : Type 0} {R : N → N → Ordering} → ℕ → KeyBoard R T → KeyBoard R T
passed now b = record b { work = added_all (due now b.delays) b.work; delays = still_delayed now b.delays; time = now }

-- it is this moment or later: time never falls
abbrev pub ticked : {N T : Type 0} {R : N → N → Ordering} → ℕ → KeyBoard R T → KeyBoard R T
ticked now b = passed (max b.time now) b

-- how many milliseconds pass until the next key comes due, if one is delayed
abbrev pub until_due : {N T : Type 0} {R : N → N → Ordering} → KeyBoard R T → Option ℕ
until_due b = option_map (λ moment. moment - b.time) (next_moment b.delays)

-- ---- the end

-- from then on nothing is added; what waits is still handed out
abbrev pub shut_off : {N T : Type 0} {R : N → N → Ordering} → KeyBoard R T → KeyBoard R T
shut_off b = record b { work = shut b.work }
