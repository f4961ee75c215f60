-- A board of keys of any type, by the names that the keys say and the order of names: what workers share (client-go, util/workqueue).
use Rattle.std.specs.Prelude.{ℕ, ◌+◌, ◌-◌, ◌^◌, List, min, max, Option, option_map}
use Rattle.std.specs.FinMap as map
use Rattle.std.specs.declared.cmp.Ordering.{Ordering}
use Rattle.spec_client_go.specs.Delays.{delay_after}
use Rattle.keyed_queues.specs.Queues.{KeyQueue, idle, added_all, got, done, shut}
use Rattle.keyed_queues.specs.Delays.{KeyDelays, delayed, due, next_moment, still_delayed}
use Rattle.keyed_queues.specs.Failures.{KeyFailures, failures, failed}
use Rattle.keyed_board.specs.Patience.{milliseconds_asked}
use Rattle.keyed_board.specs.declared.outcome.Outcome.{Outcome}
use Rattle.keyed_board.specs.declared.outcome.Outcome.TheVariants.{Done, LookAgain, Failed}

-- the work queue, the keys with a delay, how often each key failed in a row, and the time in milliseconds
pub record KeyBoard {N : Type 0} (R : N → N → Ordering) : Type 0 where
  pub work : KeyQueue R
  pub delays : KeyDelays R
  pub failures : KeyFailures R
  pub time : ℕ

abbrev pub begun : {N : Type 0} {R : N → N → Ordering} → KeyBoard R
begun = record { work = idle; delays = map.empty; failures = map.empty; time = 0 }

-- ---- keys that are to be looked at

-- keys are added one after another
abbrev pub with_keys : {N : Type 0} {R : N → N → Ordering} → List N → KeyBoard R → KeyBoard R
with_keys ks b = record b { work = added_all ks b.work }

-- the moment so many milliseconds from now; moments end at 2^64 - 1
abbrev pub moment_in : {N : Type 0} {R : N → N → Ordering} → ℕ → KeyBoard R → ℕ
moment_in milliseconds b = min (b.time + milliseconds) (2 ^ 64 - 1)

-- a key is to be added then
abbrev pub postponed : {N : Type 0} {R : N → N → Ordering} → N → ℕ → KeyBoard R → KeyBoard R
postponed k milliseconds b = record b { delays = delayed k (moment_in milliseconds b) b.delays }

-- ---- a worker's turn

-- the next key goes into a worker's hands
abbrev pub taken : {N : Type 0} {R : N → N → Ordering} → KeyBoard R → KeyBoard R
taken b = record b { work = got b.work }

-- a key leaves a worker's hands
abbrev pub given_back : {N : Type 0} {R : N → N → Ordering} → N → KeyBoard R → KeyBoard R
given_back k b = record b { work = done k b.work }

abbrev pub forgotten : {N : Type 0} {R : N → N → Ordering} → N → KeyBoard R → KeyBoard R
forgotten k b = record b { failures = map.remove b.failures k }

abbrev pub counted : {N : Type 0} {R : N → N → Ordering} → N → KeyBoard R → KeyBoard R
counted k b = record b { failures = failed k b.failures }

-- the key leaves the worker's hands. Its failures are forgotten, unless this is one more; where it is to be looked at again, it
-- waits so long, and after a failure as long as its failures before tell, and as the server asks
abbrev pub finished : {N : Type 0} {R : N → N → Ordering} → N → Outcome → KeyBoard R → KeyBoard R
finished k Done b = forgotten k (given_back k b)
finished k (LookAgain milliseconds) b = postponed k milliseconds (forgotten k (given_back k b))
finished k (Failed failure) b = counted k (postponed k (max (delay_after (failures k b.failures)) (milliseconds_asked failure)) (given_back k b))

-- ---- time

-- it is this moment, and the keys whose moment has come are added
abbrev pub passed : {N : Type 0} {R : N → N → Ordering} → ℕ → KeyBoard R → KeyBoard R
passed now b = record b { work = added_all (due now b.delays) b.work; delays = still_delayed now b.delays; time = now }

-- it is this moment or later: time never falls
abbrev pub ticked : {N : Type 0} {R : N → N → Ordering} → ℕ → KeyBoard R → KeyBoard R
ticked now b = passed (max b.time now) b

-- how many milliseconds pass until the next key comes due, if one is delayed
abbrev pub until_due : {N : Type 0} {R : N → N → Ordering} → KeyBoard R → Option ℕ
until_due b = option_map (λ moment. moment - b.time) (next_moment b.delays)

-- ---- the end

-- from then on nothing is added; what waits is still handed out
abbrev pub shut_off : {N : Type 0} {R : N → N → Ordering} → KeyBoard R → KeyBoard R
shut_off b = record b { work = shut b.work }
