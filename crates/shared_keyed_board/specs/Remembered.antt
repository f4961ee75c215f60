-- What becomes of keys that are to be looked at.
use Rattle.std.specs.Prelude.{◌≡◌, ◌⊎◌, ℕ, ◌∷◌, ◌++◌, Some, true, false}
use Rattle.std.specs.List.{Contains}
use Rattle.std.specs.FinMap as map
use Rattle.std.specs.FinSet as set
use Rattle.std.specs.declared.cmp.Ordering.{Ordering}
use Rattle.baton.specs.Marks.{CanHappen}
use Rattle.keyed_board.specs.Boards.{KeyBoard}
use Rattle.keyed_board.specs.Steps.{Step, add, add_after, take, finish, tick, shut_down}
use Rattle.keyed_board.specs.declared.outcome.Outcome.TheVariants.{Done, LookAgain, Failed}
use Rattle.shared_keyed_board.specs.Histories.{History, board, hand, MayFollow}

-- a step asks for a look at a key: the key is added, at once or after a delay, or its worker wants another look, or has failed
abbrev pub Asks : {N : Type 0} → N → Step N → Type 0
Asks k (add ks) = Contains ks k
Asks k (add_after j milliseconds) = j ≡ k
Asks k (take j) = ⊥
Asks k (finish j Done) = ⊥
Asks k (finish j (LookAgain milliseconds)) = j ≡ k
Asks k (finish j (Failed failure)) = j ≡ k
Asks k (tick now) = ⊥
Asks k shut_down = ⊥

abbrev pub IsQueued : {N : Type 0} {R : N → N → Ordering} → N → KeyBoard R → Type 0
IsQueued k b = Contains b.work.queue k

abbrev pub IsDelayed : {N : Type 0} {R : N → N → Ordering} → N → KeyBoard R → Type 0
IsDelayed k b = map.contains_key b.delays k ≡ true

-- a key is in somebody's hands, and waits again when it is given back
abbrev pub WaitsInHand : {N : Type 0} (R : N → N → Ordering) → N → History N → Type 0
WaitsInHand R k h = (name : ℕ) × (hand h name ≡ Some k) × (set.contains (board R h).work.dirty k ≡ true)

-- one of these steps takes a key
abbrev pub WasTaken : {N : Type 0} → N → History N → Type 0
WasTaken k rest = (name : ℕ) × Contains rest (name, take k)

-- a key is still to be looked at after a history, or was taken in the last part of it
abbrev pub IsRemembered : {N : Type 0} (R : N → N → Ordering) → N → History N → History N → Type 0
IsRemembered R k h rest = IsQueued k (board R h) ⊎ (IsDelayed k (board R h) ⊎ (WaitsInHand R k h ⊎ WasTaken k rest))

-- while the board is not shut down, a key for which a look was asked is still to be looked at, or was taken since
abbrev pub NothingIsForgotten : {N : Type 0} → (N → N → Ordering) → Type 0
NothingIsForgotten {N = N} R =
    (front rest : History N) (name : ℕ) (e : Step N) (k : N) → Asks k e → CanHappen (MayFollow R) (front ++ (name, e) ∷ rest) → (board R (front ++ (name, e) ∷ rest)).work.is_shut ≡ false
    → IsRemembered R k (front ++ (name, e) ∷ rest) rest
