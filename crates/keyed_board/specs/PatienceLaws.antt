-- A server that asks to be left alone is.
use Rattle.std.specs.Prelude.{◌≡◌, ◌<◌, ℕ, None}
use Rattle.std.specs.FinMap as map
use Rattle.std.specs.List.{Contains}
use Rattle.std.specs.declared.cmp.Ordering.{Ordering}
use Rattle.keyed_queues.specs.Delays.{due}
use Rattle.keyed_board.specs.Boards.{KeyBoard, finished, moment_in}
use Rattle.keyed_board.specs.Patience.{milliseconds_asked}
use Rattle.keyed_board.specs.declared.failure.Failure.{Failure}
use Rattle.keyed_board.specs.declared.outcome.Outcome.TheVariants.{Failed}

-- a key that failed, and was not delayed before, comes due no sooner than the time is over for which the server asks, whichever that is
abbrev pub LeavesAlone : {N : Type 0} → (N → N → Ordering) → Type 0
LeavesAlone {N = N} R =
    (k : N) (failure : Failure) (b : KeyBoard R) → map.get b.delays k ≡ None
    → (now : ℕ) → now < moment_in (milliseconds_asked failure) b → Contains (due now (finished k (Failed failure) b).delays) k → ⊥
