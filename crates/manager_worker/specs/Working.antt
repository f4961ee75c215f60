-- What a worker does: it takes one key after another, with a turn for each.
use Rattle.std.specs.Prelude.{◌≡◌, ◌⊎◌, Option, None, Some}
use Rattle.baton.specs.declared.views.Known.{Known}
use Rattle.spec_api.specs.ObjectRequests as words
use Rattle.spec_api.specs.declared.kinds.Kind.{Kind}
use Rattle.spec_server.specs.Snapshots.{Snapshot}
use Rattle.spec_sim.specs.Turns.{begun}
use Rattle.http_client.specs.declared.answer.Answer as client
use Rattle.control_desk.specs.Calls.{IsCall}
use Rattle.control_desk.specs.Steps.{Step, taking}
use Rattle.control_desk.specs.Taken.{IsNext}
use Rattle.control_desk.specs.declared.states.WorkState.{WorkState}
use Rattle.control_desk.specs.declared.taken_key.TakenKey.{TakenKey}
use Rattle.object_keys.specs.WorkKeys.{work_key_of}
use Rattle.manager_worker.specs.Patience.{heard}
use Rattle.manager_worker.specs.Stepping.{in_turn, Sees}
use Rattle.manager_worker.specs.Ending.{IsTakenUntilOver, IsCutShort}

-- a worker at the board: the key in its hands, if any, with what was handled of each kind before it was taken; what it looks at; its server; and what its pass
-- knows of the board
pub record AtBoard (L A : Type 0) : Type 0 where
  pub hand : Option TakenKey
  pub listers : L
  pub api : A
  pub known : Known WorkState Step

abbrev pub at_board : {L A : Type 0} → Option TakenKey → L → A → Known WorkState Step → AtBoard L A
at_board hand listers api v = record { hand = hand; listers = listers; api = api; known = v }

module _ {L A : Type 0} (shows : L → Kind → Option Snapshot → L → Type 0) (answers : A → words.Request → client.Answer → A → Type 0) where
  -- A worker with no key takes the next one, or none where none waits, and with it the revisions up to which each kind was handled in the history at which it is
  -- taken; it sees at most what happened, where there is no memory for it; or it takes the turn of the key in its hands, from its beginning, when no server has
  -- asked to be left alone, until it is over. No map that it looks at in this turn is older than the revision that came with the key.
  pub data Does (b : AtBoard L A) : AtBoard L A → Type 0 where
    takes : (k : Option TakenKey) (w : Known WorkState Step) → b.hand ≡ None → IsCall b.known taking (λ s. IsNext k s) w → Does b (at_board k b.listers b.api w)
    sees : (w : Known WorkState Step) → b.hand ≡ None → Sees b.known w → Does b (at_board None b.listers b.api w)
    turns : (k : TakenKey) (listers : L) (api : A) (w : Known WorkState Step) → b.hand ≡ Some k
        → IsTakenUntilOver shows answers k.handled k.key (in_turn (begun (work_key_of k.key)) b.listers (heard b.api 0) b.known) listers api w
        → Does b (at_board None listers api w)

  -- the turn of the key in its hands is left before it is over, and the key stays there
  pub record IsLeft (b a : AtBoard L A) : Type 0 where
    pub taken : TakenKey
    pub before : b.hand ≡ Some taken
    pub after : a.hand ≡ Some taken
    pub cut : IsCutShort shows answers taken.handled (in_turn (begun (work_key_of taken.key)) b.listers (heard b.api 0) b.known) a.listers a.api a.known

  -- one thing after another
  pub data Works (b : AtBoard L A) : AtBoard L A → Type 0 where
    none : Works b b
    more : (u a : AtBoard L A) → Works b u → Does u a → Works b a

  -- until all is to stop
  pub record WorksUntilStop (b a : AtBoard L A) : Type 0 where
    pub last : AtBoard L A
    pub worked : Works b last
    pub left : (a ≡ last) ⊎ IsLeft last a
