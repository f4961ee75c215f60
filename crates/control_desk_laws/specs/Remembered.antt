-- What becomes of keys that are to be looked at.
use Rattle.std.specs.Prelude.{◌≡◌, ◌⊎◌, ℕ, List, ◌∷◌, ◌++◌, Some, true}
use Rattle.std.specs.List.{Contains}
use Rattle.std.specs.FinMap as map
use Rattle.std.specs.FinSet as set
use Rattle.baton.specs.Marks.{CanHappen}
use Rattle.spec_client_go.specs.Boards.{Board}
use Rattle.spec_client_go.specs.WorkQueues.{WorkKey}
use Rattle.control_desk.specs.Hands.{board, hand, MayFollow}
use Rattle.control_desk.specs.Steps.{Step, take, finish, requeue, observe, add, expect_creations, expect_deletions, forget, tick}

-- a step asks for a look at a key: a change owes it, it is added, or its worker gives it back to be tried again
abbrev pub Asks : WorkKey → Step → Type 0
Asks k (take j) = ⊥
Asks k (finish j) = ⊥
Asks k (requeue j ss least) = j ≡ k
Asks k (observe kind r ss ks) = Contains ks k
Asks k (add ks) = Contains ks k
Asks k (expect_creations o n) = ⊥
Asks k (expect_deletions o pods) = ⊥
Asks k (forget j) = ⊥
Asks k (tick n) = ⊥

abbrev pub IsQueued : WorkKey → Board → Type 0
IsQueued k b = Contains b.work.queue k

abbrev pub IsDelayed : WorkKey → Board → Type 0
IsDelayed k b = map.contains_key b.delays k ≡ true

-- a key is in somebody's hands, and waits again when it is given back
abbrev pub WaitsInHand : WorkKey → List (ℕ × Step) → Type 0
WaitsInHand k h = (name : ℕ) × (hand h name ≡ Some k) × (set.contains (board h).work.dirty k ≡ true)

-- one of these steps takes a key
abbrev pub WasTaken : WorkKey → List (ℕ × Step) → Type 0
WasTaken k rest = (name : ℕ) × Contains rest (name, take k)

-- a key is still to be looked at after a history, or was taken in the last part of it
abbrev pub IsRemembered : WorkKey → List (ℕ × Step) → List (ℕ × Step) → Type 0
IsRemembered k h rest = IsQueued k (board h) ⊎ (IsDelayed k (board h) ⊎ (WaitsInHand k h ⊎ WasTaken k rest))

-- a key for which a look was asked is still to be looked at, or was taken since
abbrev pub NothingIsForgotten : Type 0
NothingIsForgotten =
    (before rest : List (ℕ × Step)) (name : ℕ) (e : Step) (k : WorkKey) → Asks k e → CanHappen MayFollow (before ++ (name, e) ∷ rest) → IsRemembered k (before ++ (name, e) ∷ rest) rest
