-- Attempts to take a key.
use Rattle.std.proofs.Common.{◌≡◌, refl, sym, ap, ◌∙◌, ℕ, List, Bool, true, false}
use Rattle.std.specs.Prelude.{None, IfSome, option_map}
use Rattle.std.specs.declared.cmp.Ordering.{Ordering}
use Rattle.keyed_queues.specs.Queues.{handed}
use Rattle.keyed_board.specs.Boards.{KeyBoard}
use Rattle.keyed_board.specs.Steps.{take}
use Rattle.shared_keyed_board.specs.Attempts.{Attempts, step_done, key_taken, none_taken}
use Rattle.shared_keyed_board.specs.Calls.{Sight, HasLooked, having_seen, taking}
use Rattle.shared_keyed_board.specs.Entries.{step_said}
use Rattle.shared_keyed_board.specs.Histories.{History, MayFollow, in_hand}
use Rattle.shared_keyed_board.specs.declared.attempt.Attempt.{Attempt}
use Rattle.shared_keyed_board.specs.declared.attempt.Attempt.TheVariants.{Taken, NoneWaits, ShutDown}
use Rattle.shared_keyed_board.specs.declared.doing.Doing.{Doing}
use Rattle.shared_keyed_board.specs.declared.doing.Doing.TheVariants as doings
use Rattle.shared_keyed_board.proofs.Passing.{key_after, key_same}

module _ {K N : Type 0} (R : N → N → Ordering) (say : K → N) where
  -- the key that was taken is the one that was next
  pub handed_is : (b : KeyBoard R) (a : Attempt K) → Attempts say b a → option_map say (key_taken a) ≡ handed b.work
  handed_is b (Taken key) h = sym h
  handed_is b NoneWaits h = sym h.0
  handed_is b ShutDown h = sym h.0

  -- and the step is the take of the next key
  pub takes_is : (b : KeyBoard R) (a : Attempt K) → Attempts say b a → option_map take (option_map say (key_taken a)) ≡ taking b
  takes_is b a h = ap (option_map take) (handed_is b a h)

  -- the key is then in hand
  pub hand_taken : (v w x : Sight N) (a : Attempt K) → HasLooked R v w → in_hand v.made ≡ None → x ≡ having_seen w w.seen (option_map take (option_map say (key_taken a))) → in_hand x.made ≡ option_map say (key_taken a)
  hand_taken v w x (Taken key) t free is = key_after R v w x (take (say key)) t is
  hand_taken v w x NoneWaits t free is = key_same R v w x t is ∙ free
  hand_taken v w x ShutDown t free is = key_same R v w x t is ∙ free

  -- where no key waits, none is taken
  pub none_attempts : (b : KeyBoard R) (is_shut : Bool) → is_shut ≡ b.work.is_shut → handed b.work ≡ None → Attempts say b (none_taken is_shut)
  none_attempts b true is none = (none, sym is)
  none_attempts b false is none = (none, sym is)

-- what is done with no single key may always be done
pub always_may : {K N : Type 0} (R : N → N → Ordering) (say : K → N) (h : History N) (name : ℕ) (doing : Doing) (ks : List K) → IfSome (option_map (step_said say) (step_done doing ks)) (λ s. MayFollow R h name s)
always_may R say h name doings.Nothing ks = tt
always_may R say h name doings.Adds ks = tt
always_may R say h name (doings.Ticks now) ks = tt
always_may R say h name doings.ShutsDown ks = tt

pub none_key : {K : Type 0} (is_shut : Bool) → key_taken {K = K} (none_taken is_shut) ≡ None
none_key true = refl
none_key false = refl
