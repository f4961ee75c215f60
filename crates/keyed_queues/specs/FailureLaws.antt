-- What is true of the failures of keys of any type, and of the delays that follow them.
use Rattle.std.specs.Prelude.{◌≡◌, ◌+◌, ◌*◌, ℕ, true, min}
use Rattle.std.specs.FinMap as map
use Rattle.std.specs.declared.cmp.Ordering.{Ordering}
use Rattle.spec_client_go.specs.Delays.{delay_after}
use Rattle.keyed_queues.specs.Failures.{KeyFailures, failed, restored}

-- a key that failed has failures
abbrev pub FailedHaveFailures : {N : Type 0} → (N → N → Ordering) → Type 0
FailedHaveFailures {N = N} R = (k : N) (m : KeyFailures R) → map.contains_key (failed k m) k ≡ true

-- where what was counted before is set again, nothing has changed
abbrev pub FailuresAreTakenBack : {N : Type 0} → (N → N → Ordering) → Type 0
FailuresAreTakenBack {N = N} R = (k : N) (m : KeyFailures R) → restored k (map.get m k) (failed k m) ≡ m

-- each delay is twice the one before, to the limit
abbrev pub DelaysDouble : Type 0
DelaysDouble = (f : ℕ) → delay_after (f + 1) ≡ min (2 * delay_after f) 1000000
