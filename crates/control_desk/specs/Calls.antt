-- What a call of a desk of work means to the pass that makes it.
use Rattle.std.specs.Prelude.{◌≡◌, ◌≢◌, ℕ, List, ◌++◌, Option, None, IfSome, true, false, Result, Ok, Err}
use Rattle.baton.specs.Marks.{StartsWith, entries, made_by, marked, CanHappen}
use Rattle.baton.specs.declared.views.Known.{Known}
use Rattle.control_desk.specs.Steps.{Step, next_state, in_hand, IsAllowed}
use Rattle.control_desk.specs.Hands.{board, state, MayFollow}
use Rattle.control_desk.specs.declared.states.WorkState.{WorkState}

-- what a pass knows once it has seen a history, and added this step to it
abbrev pub having_seen : Known WorkState Step → List (ℕ × Step) → Option Step → Known WorkState Step
having_seen v h change = record v { seen = h ++ marked v.name change; made = v.made ++ entries (marked v.name change) }

-- There is a history of what may happen, which begins with all that the pass had seen and has of the pass's steps just what it
-- made. What is said of the call is so of the board after this history and of what was handled in it, and afterwards the pass has
-- seen it, and then the step that it adds.
pub record IsCall (v : Known WorkState Step) (change : WorkState → Option Step) (Says : WorkState → Type 0) (w : Known WorkState Step) : Type 0 where
  pub history : List (ℕ × Step)
  pub later : StartsWith history v.seen
  pub made : made_by v.name history ≡ v.made
  pub happened : CanHappen MayFollow history
  pub says : Says (state history)
  pub knows : w ≡ having_seen v history (change (state history))

-- nothing more is said
abbrev pub Nothing : WorkState → Type 0
Nothing s = Unit {0}

-- what a result changes: an error nothing
abbrev pub once_ok : {X Y : Type 0} → Result X Y → Option Step → Option Step
once_ok (Ok x) change = change
once_ok (Err e) change = None

-- what a pass knows once it has given the board back, with this step
abbrev pub after_give : Known WorkState Step → Option Step → Known WorkState Step
after_give v change = record v { seen = v.seen ++ marked v.name change; made = v.made ++ entries (marked v.name change); holds = false }

-- a pass that did not hold the board has learned all that happened, and holds it
pub record HasTaken (v w : Known WorkState Step) : Type 0 where
  pub later : StartsWith w.seen v.seen
  pub made : made_by v.name w.seen ≡ v.made
  pub happened : CanHappen MayFollow w.seen
  pub same : w ≡ record v { seen = w.seen; holds = true }
  pub free : v.holds ≡ false

-- what a pass has seen that adds to a history the step of a call, which changes the board or what is handled and is allowed to the pass, is again a history of what may
-- happen
abbrev pub CallsCanHappen : Type 0
CallsCanHappen =
    (v w : Known WorkState Step) (h : List (ℕ × Step)) (change : Option Step) → CanHappen MayFollow h → made_by v.name h ≡ v.made
    → IfSome change (λ e. (next_state (state h) e ≢ state h) × IsAllowed (in_hand v.made) (board h) e)
    → w ≡ having_seen v h change → CanHappen MayFollow w.seen
