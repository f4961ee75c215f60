-- How a turn is over, and how its key is given back.
use Rattle.std.specs.Prelude.{◌≡◌, ◌⊎◌, ◌++◌, ℕ, [], ◌∷◌, Bool, true, false, Option, Some, Result, Ok, Err, if◌then◌else◌}
use Rattle.baton.specs.declared.views.Known.{Known}
use Rattle.object_keys.specs.declared.per_kind.PerKind.{PerKind}
use Rattle.spec_api.specs.Keys.{Key}
use Rattle.spec_api.specs.ObjectRequests as words
use Rattle.spec_api.specs.declared.kinds.Kind.{Kind}
use Rattle.spec_server.specs.Snapshots.{Snapshot}
use Rattle.spec_sim.specs.NextSteps as turn
use Rattle.spec_sim.specs.NextSteps.{NextStep, next}
use Rattle.spec_sim.specs.Turns.{Turn, all_accepted, taken_back}
use Rattle.http_client.specs.declared.answer.Answer as client
use Rattle.control_desk.specs.Calls.{IsCall, Nothing}
use Rattle.control_desk.specs.Steps.{Step, changing, in_hand, finish, requeue}
use Rattle.control_desk.specs.declared.states.WorkState.{WorkState}
use Rattle.object_keys.specs.WorkKeys.{work_key_of}
use Rattle.object_keys.specs.declared.work_key.WorkKey.{WorkKey}
use Rattle.manager_worker.specs.Patience.{heard}
use Rattle.manager_worker.specs.Stepping.{InTurn, in_turn, Sees, Steps, Reaches}
use Rattle.manager_worker.specs.declared.steps.Progress.{Progress}
use Rattle.manager_worker.specs.declared.steps.Progress.TheVariants as progress
use Rattle.manager_worker.specs.declared.turning.Course.{Course}
use Rattle.manager_worker.specs.declared.turning.Course.TheVariants as course

-- The step of the board that gives back the key of a turn which is over where this step of its own comes next. At the end of the turn the key is
-- done where all was accepted; else it waits for its delay, and for as long as the server has asked to be left alone, and what was not done is
-- expected no longer. Before, where the turn is given up, it waits likewise, and nothing is taken back. A key that a change adds meanwhile is taken
-- sooner, and its turn begins anew.
abbrev pub giving_back : WorkKey → NextStep → Turn → ℕ → Step
giving_back k turn.finish t patience = if all_accepted t.issues then finish (work_key_of k) else requeue (work_key_of k) (taken_back t) patience
giving_back k s t patience = requeue (work_key_of k) [] patience

-- a pass makes a step of the board, which its history then ends with
abbrev pub Makes : Step → Known WorkState Step → Known WorkState Step → Type 0
Makes e v w = IsCall v (changing e) Nothing w × (w.made ≡ v.made ++ e ∷ [])

-- how a turn goes on for which memory runs out
abbrev pub course_of : {E : Type 0} → Result Course E → Course
course_of (Ok c) = c
course_of (Err e) = course.GoesOn

-- whether a turn is over
abbrev pub is_over : Course → Bool
is_over course.GoesOn = false
is_over course.Over = true
is_over course.CutShort = false

-- what is done after a step: where the turn is given up its key is given back, or, where there is no memory for that, is not
abbrev pub Follows : WorkKey → ℕ → Progress → Known WorkState Step → Known WorkState Step → Course → Type 0
Follows k patience progress.Went v w c = (c ≡ course.GoesOn) × (w ≡ v)
Follows k patience progress.Again v w c = (c ≡ course.GoesOn) × (w ≡ v)
Follows k patience progress.AtEnd v w c = (c ≡ course.GoesOn) × (w ≡ v)
Follows k patience progress.CutShort v w c = (c ≡ course.CutShort) × (w ≡ v)
Follows k patience progress.GivenUp v w course.GoesOn = Sees v w
Follows k patience progress.GivenUp v w course.Over = Makes (requeue (work_key_of k) [] patience) v w
Follows k patience progress.GivenUp v w course.CutShort = ⊥

-- nothing is expected or issued
pub record IsUntouched (t : Turn) : Type 0 where
  pub expected : t.has_expected ≡ false
  pub issued : t.issues ≡ []

module _ {L A : Type 0} (shows : L → Kind → Option Snapshot → L → Type 0) (answers : A → words.Request → client.Answer → A → Type 0) (handled : PerKind ℕ) where
  -- A turn is over at its end, or where it is given up, as a live read was refused or a look was older than the key: its key is given back, and nothing else is
  -- done.
  pub data Ends (k : WorkKey) (s z : InTurn L A) : Type 0 where
    at_end : next s.turn ≡ turn.finish → Makes (giving_back k turn.finish s.turn s.server.patience) s.known z.known → z ≡ in_turn s.turn s.listers s.server z.known → Ends k s z
    given_up : (u : InTurn L A) → Steps shows answers handled s u progress.GivenUp → Makes (requeue (work_key_of k) [] u.server.patience) u.known z.known
        → z ≡ in_turn u.turn u.listers u.server z.known → Ends k s z

  -- what a round makes of a turn: it comes further, or is over, or is cut short, where a command was answered and that is not noted
  abbrev pub Advances : WorkKey → InTurn L A → InTurn L A → Course → Type 0
  Advances k s z course.GoesOn = Reaches shows answers handled s z
  Advances k s z course.Over = Ends k s z
  Advances k s z course.CutShort = Steps shows answers handled s z progress.CutShort

  -- a turn was taken, step by step, until it was over; where it is given up nothing is expected or issued, if nothing was when it began
  pub record IsTakenUntilOver (k : WorkKey) (s : InTurn L A) (listers : L) (api : A) (v : Known WorkState Step) : Type 0 where
    pub last : InTurn L A
    pub reached : Reaches shows answers handled s last
    pub mine : in_hand last.known.made ≡ Some (work_key_of k)
    pub left_at : Turn
    pub patience : ℕ
    pub over : Ends k last (in_turn left_at listers (heard api patience) v)
    pub untouched : IsUntouched s.turn → (u : InTurn L A) → Steps shows answers handled last u progress.GivenUp → IsUntouched last.turn

  -- a turn was taken, step by step, until all was to stop; of the last step it may not be noted how a command was answered
  pub record IsCutShort (s : InTurn L A) (listers : L) (api : A) (v : Known WorkState Step) : Type 0 where
    pub last : InTurn L A
    pub reached : Reaches shows answers handled s last
    pub left_at : Turn
    pub patience : ℕ
    pub left :
        (in_turn left_at listers (heard api patience) v ≡ last) ⊎ Steps shows answers handled last (in_turn left_at listers (heard api patience) v) progress.CutShort
