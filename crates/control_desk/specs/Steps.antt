-- The steps of the board that workers share, what each makes of it and of what is handled, and which key a worker's own steps leave in its hands.
use Rattle.std.specs.Prelude.{◌≡◌, ◌==◌, ◌&&◌, ℕ, max, List, [], ◌∷◌, Bool, true, false, Option, Some, None, if◌then◌else◌}
use base.Stored.{Gv, gnil, gnum, gcons}
use Rattle.spec_client_go.specs.Boards.{Board, Observation, taken, finished, observed, expecting_creations, expecting_deletions, forgotten, ticked}
use Rattle.work_board.specs.Later.{requeued_after}
use Rattle.object_keys.specs.PerKind.{of_kind, with_kind}
use Rattle.object_keys.specs.declared.per_kind.PerKind.{PerKind}
use Rattle.spec_client_go.specs.Expectations.{Owner}
use Rattle.spec_client_go.specs.WorkQueues.{WorkKey, handed}
use Rattle.spec_api.specs.Keys.{Key}
use Rattle.spec_api.specs.declared.kinds.Kind.{Kind}
use Rattle.control_desk.specs.States.{state_code}
use Rattle.control_desk.specs.declared.states.WorkState.{WorkState}

-- a key is taken, is done, or failed and is to be tried again, after its delay and at least so many milliseconds; what is published of a kind at a revision
-- is handled: a change of it, or keys that it owes; keys are added that nothing published owes; pods are expected, or no longer; time passes
pub data Step : Type 0 where
  take : WorkKey → Step
  finish : WorkKey → Step
  requeue : WorkKey → List Observation → ℕ → Step
  observe : Kind → ℕ → List Observation → List WorkKey → Step
  add : List WorkKey → Step
  expect_creations : Owner → ℕ → Step
  expect_deletions : Owner → List (List ℕ) → Step
  forget : Key → Step
  tick : ℕ → Step

abbrev pub after : Board → Step → Board
after b (take k) = taken b
after b (finish k) = finished k b
after b (requeue k ss least) = requeued_after k ss least b
after b (observe k r ss ks) = observed ss ks b
after b (add ks) = observed [] ks b
after b (expect_creations o n) = expecting_creations o n b
after b (expect_deletions o pods) = expecting_deletions o pods b
after b (forget k) = forgotten k b
after b (tick n) = ticked n b

abbrev pub after_steps : Board → List Step → Board
after_steps b [] = b
after_steps b (e ∷ es) = after_steps (after b e) es

-- ---- what is handled

-- what is handled of each kind, after a step: of one that is handled at a revision, this revision, unless it was handled up to a higher one
abbrev pub raised : Step → PerKind ℕ → PerKind ℕ
raised (take k) n = n
raised (finish k) n = n
raised (requeue k ss least) n = n
raised (observe k r ss ks) n = with_kind k (max (of_kind k n) r) n
raised (add ks) n = n
raised (expect_creations o m) n = n
raised (expect_deletions o pods) n = n
raised (forget k) n = n
raised (tick m) n = n

abbrev pub all_raised : List Step → PerKind ℕ → PerKind ℕ
all_raised [] n = n
all_raised (e ∷ es) n = all_raised es (raised e n)

-- ---- both

-- the board after a step, and what is handled then
abbrev pub next_state : WorkState → Step → WorkState
next_state s e = record { board = after s.board e; handled = raised e s.handled }

abbrev pub state_after : WorkState → List Step → WorkState
state_after s es = record { board = after_steps s.board es; handled = all_raised es s.handled }

-- ---- steps that change something

unfoldable pub same_code : Gv → Gv → Bool
same_code gnil gnil = true
same_code gnil (gnum n) = false
same_code gnil (gcons a b) = false
same_code (gnum m) gnil = false
same_code (gnum m) (gnum n) = m == n
same_code (gnum m) (gcons a b) = false
same_code (gcons a b) gnil = false
same_code (gcons a b) (gnum n) = false
same_code (gcons a b) (gcons c d) = same_code a c && same_code b d

-- whether two boards are the same, and what is handled by them, by their codes
unfoldable pub is_same : WorkState → WorkState → Bool
is_same a b = same_code (state_code.code a) (state_code.code b)

-- the step, where it changes the board or what is handled
abbrev pub changing : Step → WorkState → Option Step
changing e s = if is_same (next_state s e) s then None else Some e

-- a take of the next key, where one waits
abbrev pub taking_of : Option WorkKey → WorkState → Option Step
taking_of None s = None
taking_of (Some k) s = changing (take k) s

abbrev pub taking : WorkState → Option Step
taking s = taking_of (handed s.board.work) s

-- ---- hands

abbrev pub in_hand_after : Option WorkKey → Step → Option WorkKey
in_hand_after mine (take k) = Some k
in_hand_after mine (finish k) = None
in_hand_after mine (requeue k ss least) = None
in_hand_after mine (observe k r ss ks) = mine
in_hand_after mine (add ks) = mine
in_hand_after mine (expect_creations o n) = mine
in_hand_after mine (expect_deletions o pods) = mine
in_hand_after mine (forget k) = mine
in_hand_after mine (tick n) = mine

abbrev pub in_hand_from : Option WorkKey → List Step → Option WorkKey
in_hand_from mine [] = mine
in_hand_from mine (e ∷ es) = in_hand_from (in_hand_after mine e) es

-- the key that these steps of a worker leave in its hands: that of the last take, if no finish or requeue follows it
abbrev pub in_hand : List Step → Option WorkKey
in_hand es = in_hand_from None es

-- a key is taken by who has none, and it is the next; it is finished or tried again by who has it
abbrev pub IsAllowed : Option WorkKey → Board → Step → Type 0
IsAllowed mine b (take k) = (mine ≡ None) × (handed b.work ≡ Some k)
IsAllowed mine b (finish k) = mine ≡ Some k
IsAllowed mine b (requeue k ss least) = mine ≡ Some k
IsAllowed mine b (observe k r ss ks) = Unit {0}
IsAllowed mine b (add ks) = Unit {0}
IsAllowed mine b (expect_creations o n) = Unit {0}
IsAllowed mine b (expect_deletions o pods) = Unit {0}
IsAllowed mine b (forget k) = Unit {0}
IsAllowed mine b (tick n) = Unit {0}
