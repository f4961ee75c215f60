-- What is told of the next key that comes due.
use Rattle.std.specs.Prelude.{◌≡◌, ◌≢◌, ◌<◌, ◌+◌, ℕ, [], Some, None}
use Rattle.spec_client_go.specs.Boards.{Board}
use Rattle.spec_client_go.specs.Delays.{due}
use Rattle.work_board.specs.Due.{until_due}

-- nothing comes due before so many milliseconds have passed, and then something does
pub record IsUntilDue (b : Board) (milliseconds : ℕ) : Type 0 where
  pub before : (passed : ℕ) → passed < milliseconds → due (b.time + passed) b.delays ≡ []
  pub on_time : due (b.time + milliseconds) b.delays ≢ []

-- where it is told, it is so; where none is, no key is delayed
abbrev pub DueIsTold : Type 0
DueIsTold = (b : Board) → ((milliseconds : ℕ) → until_due b ≡ Some milliseconds → IsUntilDue b milliseconds) × (until_due b ≡ None → (now : ℕ) → due now b.delays ≡ [])
