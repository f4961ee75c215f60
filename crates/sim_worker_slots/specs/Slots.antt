-- The turns of workers, each in its slot.
use Rattle.std.specs.Prelude.{ℕ, List, Bool, true, false, Option, Some, None, option_map, slice_get, slice_set}
use Rattle.spec_sim.specs.Managers.{Action, is_for}
use Rattle.spec_sim.specs.NextSteps.{NextStep, next}
use Rattle.spec_sim.specs.Turns.{Turn}

abbrev pub Slots : Type 0
Slots = List (Option Turn)

-- there is such a worker, and it is in no turn
abbrev pub is_empty : Option (Option Turn) → Bool
is_empty None = false
is_empty (Some None) = true
is_empty (Some (Some t)) = false

abbrev pub is_idle : ℕ → Slots → Bool
is_idle w ts = is_empty (slice_get ts w)

-- the turn that a worker is in, if there is such a worker and it is in one
abbrev pub in_slot : Option (Option Turn) → Option Turn
in_slot None = None
in_slot (Some t) = t

abbrev pub turn_of : ℕ → Slots → Option Turn
turn_of w ts = in_slot (slice_get ts w)

-- the next step of a turn, if there is one
abbrev pub next_in : Option Turn → Option NextStep
next_in t = option_map next t

-- whether an action is the step that comes next in a turn, if there is one
abbrev pub comes_next : Action → Option Turn → Bool
comes_next a None = false
comes_next a (Some t) = is_for a (next t)

-- the turns once a worker's turn has gone on
abbrev pub gone_on : (Turn → Turn) → ℕ → Slots → Slots
gone_on f w ts = slice_set ts w (option_map f (turn_of w ts))
