-- What calls do, and what comes of an attempt to take a key.
use Rattle.std.specs.Prelude.{◌≡◌, Bool, List, [], ◌∷◌, Option, Some, None, true, false}
use Rattle.std.specs.declared.cmp.Ordering.{Ordering}
use Rattle.keyed_queues.specs.Queues.{handed}
use Rattle.keyed_board.specs.Boards.{KeyBoard}
use Rattle.shared_keyed_board.specs.declared.attempt.Attempt.{Attempt}
use Rattle.shared_keyed_board.specs.declared.attempt.Attempt.TheVariants.{Taken, NoneWaits, ShutDown}
use Rattle.shared_keyed_board.specs.declared.doing.Doing.{Doing}
use Rattle.shared_keyed_board.specs.declared.doing.Doing.TheVariants as doings
use Rattle.shared_keyed_board.specs.declared.doing.KeyDoing.{KeyDoing}
use Rattle.shared_keyed_board.specs.declared.doing.KeyDoing.TheVariants as key_doings
use Rattle.shared_keyed_board.specs.declared.entries.BoardStep.{BoardStep}
use Rattle.shared_keyed_board.specs.declared.entries.BoardStep.TheVariants as steps

-- the step that a call makes with these keys, if it makes one
abbrev pub step_done : {K : Type 0} → Doing → List K → Option (BoardStep K)
step_done doings.Nothing ks = None
step_done doings.Adds ks = Some (steps.Add ks)
step_done (doings.Ticks now) ks = Some (steps.Tick now)
step_done doings.ShutsDown ks = Some steps.ShutDown

-- the step that a call makes with this key
abbrev pub key_step : {K : Type 0} → KeyDoing → K → BoardStep K
key_step key_doings.Adds k = steps.Add (k ∷ [])
key_step (key_doings.AddsAfter milliseconds) k = steps.AddAfter k milliseconds
key_step key_doings.Takes k = steps.Take k
key_step (key_doings.Finishes outcome) k = steps.Finish k outcome

-- the key that was taken, if one was
abbrev pub key_taken : {K : Type 0} → Attempt K → Option K
key_taken (Taken key) = Some key
key_taken NoneWaits = None
key_taken ShutDown = None

-- none was taken, and none will be where the board is shut down
abbrev pub none_taken : {K : Type 0} → Bool → Attempt K
none_taken true = ShutDown
none_taken false = NoneWaits

-- the key that waits longest was taken; where none waits, it is told whether the board is shut down
abbrev pub Attempts : {K N : Type 0} {R : N → N → Ordering} → (K → N) → KeyBoard R → Attempt K → Type 0
Attempts say b (Taken key) = handed b.work ≡ Some (say key)
Attempts say b NoneWaits = (handed b.work ≡ None) × (b.work.is_shut ≡ false)
Attempts say b ShutDown = (handed b.work ≡ None) × (b.work.is_shut ≡ true)
