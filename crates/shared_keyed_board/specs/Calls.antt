-- What a call of a board means to the pass that makes it.
use Rattle.std.specs.Prelude.{◌≡◌, ◌≢◌, ◌⊎◌, ℕ, List, ◌++◌, Option, None, IfSome, option_map, Result, Ok, Err}
use Rattle.std.specs.declared.cmp.Ordering.{Ordering}
use Rattle.baton.specs.Marks.{StartsWith, entries, made_by, marked, CanHappen}
use Rattle.keyed_queues.specs.Queues.{handed}
use Rattle.keyed_board.specs.Boards.{KeyBoard}
use Rattle.keyed_board.specs.Steps.{Step, take}
use Rattle.shared_keyed_board.specs.Histories.{History, board, in_hand, IsAllowed, MayFollow}

-- the name of a pass, what it has seen of the history, and the steps that it made
pub record Sight (N : Type 0) : Type 0 where
  pub name : ℕ
  pub seen : History N
  pub made : List (Step N)

-- what a pass knows once it has seen a history, and added this step to it
abbrev pub having_seen : {N : Type 0} → Sight N → History N → Option (Step N) → Sight N
having_seen v h change = record { name = v.name; seen = h ++ marked v.name change; made = v.made ++ entries (marked v.name change) }

-- There is a history of what may happen, which begins with all that the pass had seen and has of the pass's steps just what it
-- made. What is said of the call is so at the board after this history, and afterwards the pass has seen it, and then the step
-- that it adds.
pub record IsCall {N : Type 0} (R : N → N → Ordering) (v : Sight N) (change : KeyBoard R → Option (Step N)) (Says : KeyBoard R → Type 0) (w : Sight N) : Type 0 where
  pub history : History N
  pub later : StartsWith history v.seen
  pub made : made_by v.name history ≡ v.made
  pub happened : CanHappen (MayFollow R) history
  pub says : Says (board R history)
  pub knows : w ≡ having_seen v history (change (board R history))

-- nothing more is said
abbrev pub Nothing : {N : Type 0} {R : N → N → Ordering} → KeyBoard R → Type 0
Nothing b = Unit {0}

-- what a result changes: an error nothing
abbrev pub once_ok : {N X Y : Type 0} → Result X Y → Option (Step N) → Option (Step N)
once_ok (Ok x) change = change
once_ok (Err e) change = None

-- a take of the next key, where one waits
abbrev pub taking : {N : Type 0} {R : N → N → Ordering} → KeyBoard R → Option (Step N)
taking b = option_map take (handed b.work)

-- a pass has learned all that happened, and made nothing
pub record HasLooked {N : Type 0} (R : N → N → Ordering) (v w : Sight N) : Type 0 where
  pub later : StartsWith w.seen v.seen
  pub made : made_by v.name w.seen ≡ v.made
  pub happened : CanHappen (MayFollow R) w.seen
  pub same : w ≡ record v { seen = w.seen }

-- a pass has seen more, and made nothing
pub record IsLater {N : Type 0} (v w : Sight N) : Type 0 where
  pub later : StartsWith w.seen v.seen
  pub name : w.name ≡ v.name
  pub made : w.made ≡ v.made

-- a pass has seen all that another has, and in that history, which may happen, the steps of both are just those that they made
pub record HasSeenAll {N : Type 0} (R : N → N → Ordering) (v w : Sight N) : Type 0 where
  pub later : StartsWith v.seen w.seen
  pub mine : made_by v.name v.seen ≡ v.made
  pub theirs : made_by w.name v.seen ≡ w.made
  pub happened : CanHappen (MayFollow R) v.seen

-- two passes have met: one of them has seen all that the other has
abbrev pub HaveMet : {N : Type 0} → (N → N → Ordering) → Sight N → Sight N → Type 0
HaveMet R v w = (v.name ≢ w.name) × (HasSeenAll R v w ⊎ HasSeenAll R w v)

-- what a pass has seen that adds to a history the step of a call, which is allowed to the pass, is again a history of what may happen
abbrev pub CallsCanHappen : {N : Type 0} → (N → N → Ordering) → Type 0
CallsCanHappen {N = N} R =
    (v w : Sight N) (h : History N) (change : Option (Step N)) → CanHappen (MayFollow R) h → made_by v.name h ≡ v.made
    → IfSome change (λ e. IsAllowed (in_hand v.made) (board R h) e)
    → w ≡ having_seen v h change → CanHappen (MayFollow R) w.seen
