-- How long it is until a key comes due.
use Rattle.std.specs.Prelude.{◌≡◌, ◌≢◌, ◌<◌, ◌+◌, ℕ, [], Some, None}
use Rattle.std.specs.declared.cmp.Ordering.{Ordering}
use Rattle.keyed_queues.specs.Delays.{due}
use Rattle.boards.specs.Boards.{KeyBoard, until_due}

-- nothing comes due before so many milliseconds have passed, and then something does
pub record IsUntilDue {N T : Type 0} {R : N → N → Ordering} (b : KeyBoard R T) (milliseconds : ℕ) : Type 0 where
  pub before : (passed : ℕ) → passed < milliseconds → due (b.time + passed) b.delays ≡ []
  pub on_time : due (b.time + milliseconds) b.delays ≢ []

-- where it is told, it is so; where none is, no key is delayed
abbrev pub DueIsTold : {N : Type 0} → (N → N → Ordering) → Type 0 → Type 0
DueIsTold {N = N} R T = (b : KeyBoard R T) → ((milliseconds : ℕ) → until_due b ≡ Some milliseconds → IsUntilDue b milliseconds) × (until_due b ≡ None → (now : ℕ) → due now b.delays ≡ [])
