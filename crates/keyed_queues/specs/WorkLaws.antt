-- Queues, delays and failures of work keys.
use Rattle.std.specs.Prelude.{◌≡◌, ℕ, List, [], ◌∷◌}
use Rattle.spec_client_go.specs.WorkQueues as works
use Rattle.spec_client_go.specs.WorkQueues.{WorkKey, work_key_cmp, Call, add, get, finish, shut_down}
pub use Rattle.spec_client_go.specs.KeyQueues.{work_queue}
use Rattle.spec_client_go.specs.Delays as works_delays
use Rattle.spec_client_go.specs.KeyQueues.{KeyQueue, idle, added, got, done, shut, handed}
use Rattle.spec_client_go.specs.KeyDelays as keyed_delays
use Rattle.spec_client_go.specs.KeyDelays.{KeyDelays}
use Rattle.keyed_queues.specs.Failures as keyed_failures
use Rattle.keyed_queues.specs.Failures.{KeyFailures}

abbrev pub after : KeyQueue work_key_cmp → Call → KeyQueue work_key_cmp
after w (add k) = added k w
after w get = got w
after w (finish k) = done k w
after w shut_down = shut w

abbrev pub after_all : KeyQueue work_key_cmp → List Call → KeyQueue work_key_cmp
after_all w [] = w
after_all w (c ∷ cs) = after_all (after w c) cs

-- after the same calls it is the same
abbrev pub QueuesAreWorkQueues : Type 0
QueuesAreWorkQueues = (cs : List Call) → work_queue (after_all idle cs) ≡ works.after_all works.idle cs

-- the same key is handed out
abbrev pub KeysAreHandedOut : Type 0
KeysAreHandedOut = (w : KeyQueue work_key_cmp) → handed w ≡ works.handed (work_queue w)

-- a delay, and what is left at a moment, are the same
abbrev pub KeysAreDelayed : Type 0
KeysAreDelayed =
    (m : KeyDelays work_key_cmp) → ((k : WorkKey) (at : ℕ) → keyed_delays.delayed k at m ≡ works_delays.delayed k at m) × ((now : ℕ) → keyed_delays.still_delayed now m ≡ works_delays.still_delayed now m)

-- the same keys are due, in the same order
abbrev pub KeysAreDue : Type 0
KeysAreDue = (now : ℕ) (m : KeyDelays work_key_cmp) → keyed_delays.due now m ≡ works_delays.due now m

-- a failure counts the same
abbrev pub FailuresAreCounted : Type 0
FailuresAreCounted =
    (k : WorkKey) (m : KeyFailures work_key_cmp) → (keyed_failures.failed k m ≡ works_delays.failed k m) × (keyed_failures.failures k m ≡ works_delays.failures k m)
