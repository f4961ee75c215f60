-- How the steps of a board that workers share may follow one another, and what follows of hands and of what is handled.
use Rattle.std.specs.Prelude.{◌≡◌, ◌≢◌, ◌≤◌, ◌⊎◌, ◌++◌, ℕ, List, ◌∷◌, Option, Some, None}
use Rattle.baton.specs.Marks.{entries, made_by, CanHappen}
use Rattle.spec_api.specs.declared.kinds.Kind.{Kind}
use Rattle.spec_client_go.specs.Boards.{Board, Observation, begun}
use Rattle.spec_client_go.specs.KeysInHands.{AreHands}
use Rattle.spec_client_go.specs.WorkQueues.{WorkKey}
use Rattle.object_keys.specs.PerKind.{of_kind, each_kind}
use Rattle.object_keys.specs.declared.per_kind.PerKind.{PerKind}
use Rattle.control_desk.specs.Steps.{Step, observe, after_steps, all_raised, next_state, changing, in_hand, IsAllowed}
use Rattle.control_desk.specs.declared.states.WorkState.{WorkState}

-- nothing is to be done, and nothing is handled
abbrev pub opened : WorkState
opened = record { board = begun; handled = each_kind (λ k. 0) }

abbrev pub IsBegun : WorkState → Type 0
IsBegun s = s ≡ opened

-- the board after a history
abbrev pub board : List (ℕ × Step) → Board
board h = after_steps begun (entries h)

-- for each kind the highest revision that was handled in a history; 0 where nothing of it was
abbrev pub handled : List (ℕ × Step) → PerKind ℕ
handled h = all_raised (entries h) (each_kind (λ k. 0))

-- both
abbrev pub state : List (ℕ × Step) → WorkState
state h = record { board = board h; handled = handled h }

-- the key in the hands of the pass of this name
abbrev pub hand : List (ℕ × Step) → ℕ → Option WorkKey
hand h name = in_hand (made_by name h)

-- a step may follow that changes the board or what is handled, and that its pass is allowed
abbrev pub MayFollow : List (ℕ × Step) → ℕ → Step → Type 0
MayFollow h name e = (next_state (state h) e ≢ state h) × IsAllowed (hand h name) (board h) e

-- over every list of marked steps of which each may follow those before it
abbrev pub HandsAreApart : Type 0
HandsAreApart = (h : List (ℕ × Step)) → CanHappen MayFollow h → AreHands (hand h) (board h).work.processing

-- a step is told just where it changes the board or what is handled
pub record IsTold (e : Step) (s : WorkState) : Type 0 where
  pub told : next_state s e ≢ s → changing e s ≡ Some e
  pub untold : next_state s e ≡ s → changing e s ≡ None

abbrev pub ChangesAreTold : Type 0
ChangesAreTold = (e : Step) (s : WorkState) → IsTold e s

-- in a history something of this kind is handled at this revision
abbrev pub HasHandled : List (ℕ × Step) → Kind → ℕ → Type 0
HasHandled h k r =
    (front : List (ℕ × Step)) × (name : ℕ) × (ss : List Observation) × (ks : List WorkKey) × (rest : List (ℕ × Step)) × (h ≡ front ++ (name, observe k r ss ks) ∷ rest)

-- the highest revision that was handled of a kind: none of it was handled at a higher one, and at this one some was, unless none was at all
pub record IsHighest (h : List (ℕ × Step)) (k : Kind) (n : ℕ) : Type 0 where
  pub each : (r : ℕ) → HasHandled h k r → r ≤ n
  pub some : (n ≡ 0) ⊎ HasHandled h k n

abbrev pub HighestAreHandled : Type 0
HighestAreHandled = (h : List (ℕ × Step)) (k : Kind) → IsHighest h k (of_kind k (handled h))
