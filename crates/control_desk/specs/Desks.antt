-- A desk of work and its passes.
use Rattle.std.specs.Prelude.{◌≡◌, [], true, Option, Some}
use Rattle.crossbeam_queue.specs.Passes.{Pass, view}
use Rattle.baton.specs.Batons.{IsOf, IsFree}
use Rattle.baton.specs.Marks.{made_by, CanHappen}
use Rattle.baton.specs.declared.views.Known.{Known}
use Rattle.baton.specs.declared.views.PassView.{PassView}
use Rattle.spec_client_go.specs.WorkQueues.{WorkKey}
use Rattle.control_desk.specs.Steps.{Step, in_hand}
use Rattle.control_desk.specs.Hands.{opened, state, MayFollow}
use Rattle.control_desk.specs.declared.desks.ControlDesk.{ControlDesk}
use Rattle.control_desk.specs.declared.states.WorkState.{WorkState}

-- what a pass knows
abbrev pub known : Pass WorkState (PassView WorkState Step) → Known WorkState Step
known p = (view p).own

-- the key in a pass's hands
abbrev pub key_in_hand : Pass WorkState (PassView WorkState Step) → Option WorkKey
key_in_hand p = in_hand (known p).made

-- a pass of this desk
abbrev pub IsPassAt : ControlDesk → Pass WorkState (PassView WorkState Step) → Type 0
IsPassAt d p = IsFree d.baton p × ((known p).opening ≡ Some opened)

-- which has seen nothing and made nothing
abbrev pub IsNewAt : ControlDesk → Pass WorkState (PassView WorkState Step) → Type 0
IsNewAt d p = IsPassAt d p × ((known p).seen ≡ []) × ((known p).made ≡ [])

-- which holds the board that its history gives, and what was handled in it
pub record IsHolding (d : ControlDesk) (p : Pass WorkState (PassView WorkState Step)) (s : WorkState) : Type 0 where
  pub pass : IsOf d.baton p
  pub opening : (known p).opening ≡ Some opened
  pub holds : (known p).holds ≡ true
  pub state : s ≡ state (known p).seen
  pub made : made_by (known p).name (known p).seen ≡ (known p).made
  pub happened : CanHappen MayFollow (known p).seen
