-- What wakes the keys that wait for what is never seen.
use Rattle.std.specs.Prelude.{ℕ, List, None}
use Rattle.baton.specs.declared.views.Known.{Known}
use Rattle.work_board.specs.Aged.{HaveAgedOut}
use Rattle.spec_client_go.specs.WorkQueues.{WorkKey}
use Rattle.control_desk.specs.Calls.{IsCall, Nothing}
use Rattle.control_desk.specs.Steps.{Step, changing, add}
use Rattle.control_desk.specs.declared.states.WorkState.{WorkState}

-- The keys of the ReplicaSets whose expectations aged out from a moment until now, the board's time when it was looked at, are added; no change
-- owes them.
pub record Wakes (before now : ℕ) (v w : Known WorkState Step) : Type 0 where
  pub keys : List WorkKey
  pub between : Known WorkState Step
  pub looks : IsCall v (λ s. None) (λ s. HaveAgedOut before now keys s.board) between
  pub adds : IsCall between (changing (add keys)) Nothing w
