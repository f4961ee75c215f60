-- Histories of a board that threads share, and which key is in whose hands.
use Rattle.std.specs.Prelude.{◌≡◌, ℕ, List, [], ◌∷◌, Option, Some, None}
use Rattle.std.specs.declared.cmp.Ordering.{Ordering}
use Rattle.spec_client_go.specs.KeysInHands.{AreHands}
use Rattle.baton.specs.Marks.{entries, made_by, CanHappen}
use Rattle.keyed_queues.specs.Queues.{handed}
use Rattle.keyed_board.specs.Boards.{KeyBoard, begun}
use Rattle.keyed_board.specs.Steps.{Step, add, add_after, take, finish, tick, shut_down, after_all}

-- steps, oldest first, each marked with the name of the pass that made it
abbrev pub History : Type 0 → Type 0
History N = List (ℕ × Step N)

-- the board after a history
abbrev pub board : {N : Type 0} (R : N → N → Ordering) → History N → KeyBoard R
board R h = after_all begun (entries h)

-- ---- hands

abbrev pub in_hand_after : {N : Type 0} → Option N → Step N → Option N
in_hand_after mine (add ks) = mine
in_hand_after mine (add_after k milliseconds) = mine
in_hand_after mine (take k) = Some k
in_hand_after mine (finish k outcome) = None
in_hand_after mine (tick now) = mine
in_hand_after mine shut_down = mine

abbrev pub in_hand_from : {N : Type 0} → Option N → List (Step N) → Option N
in_hand_from mine [] = mine
in_hand_from mine (e ∷ es) = in_hand_from (in_hand_after mine e) es

-- the key that these steps of a pass leave in its hands: that of the last take, if no finish follows it
abbrev pub in_hand : {N : Type 0} → List (Step N) → Option N
in_hand es = in_hand_from None es

-- the key in the hands of the pass of this name
abbrev pub hand : {N : Type 0} → History N → ℕ → Option N
hand h name = in_hand (made_by name h)

-- ---- what may happen

-- a key is taken by who has none, and it is the one that waits longest; it is given back by who has it
abbrev pub IsAllowed : {N : Type 0} {R : N → N → Ordering} → Option N → KeyBoard R → Step N → Type 0
IsAllowed mine b (add ks) = Unit {0}
IsAllowed mine b (add_after k milliseconds) = Unit {0}
IsAllowed mine b (take k) = (mine ≡ None) × (handed b.work ≡ Some k)
IsAllowed mine b (finish k outcome) = mine ≡ Some k
IsAllowed mine b (tick now) = Unit {0}
IsAllowed mine b shut_down = Unit {0}

-- a step of the pass of this name may follow
abbrev pub MayFollow : {N : Type 0} (R : N → N → Ordering) → History N → ℕ → Step N → Type 0
MayFollow R h name e = IsAllowed (hand h name) (board R h) e

-- ---- what follows of hands

-- in every history of which each step may follow those before it
abbrev pub HandsAreApart : {N : Type 0} → (N → N → Ordering) → Type 0
HandsAreApart {N = N} R = (h : History N) → CanHappen (MayFollow R) h → AreHands (hand h) (board R h).work.processing
