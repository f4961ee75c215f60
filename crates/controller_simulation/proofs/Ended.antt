-- How a turn ends whose reconcile ends.
use Rattle.std.proofs.Common.{◌≡◌, ◌∙◌, ℕ, List, Option, Some, None, sym, subst, ap}
use Rattle.spec_server.specs.Snapshots.{Snapshot}
use Rattle.object_keys.specs.declared.per_kind.PerKind.{PerKind}
use Rattle.keyed_board.specs.declared.outcome.Outcome.{Outcome}
use Rattle.controller_simulation.specs.Turns.{turn_of}
use Rattle.controller_simulation.specs.Working.{ComesNext}
use Rattle.controller_simulation.specs.Worlds.{EndsTurn}
use Rattle.controller_simulation.specs.declared.turns.ControllerTurn.{ControllerTurn}
use Rattle.controller_simulation.specs.declared.turns.Next.TheVariants.{Ends}

-- the turn in an option, or else another
abbrev turn_or : {K : Type 0} → ControllerTurn K → Option (ControllerTurn K) → ControllerTurn K
turn_or t None = t
turn_or t (Some u) = u

pub ended_turn :
    {K : Type 0} (ends : K → PerKind Snapshot → Outcome → Type 0) (turns : List (Option (ControllerTurn K))) (worker : ℕ) (u : ControllerTurn K) (key : K) (outcome : Outcome)
    → turn_of worker turns ≡ Some u → key ≡ u.key → ComesNext ends turns worker (Ends outcome) → EndsTurn ends turns worker key outcome
ended_turn {K = K} ends turns worker u key outcome at is next =
    let same : next.0 ≡ u = ap (turn_or next.0) (sym next.1 ∙ at) in (u, at, is, subst (λ (x : ControllerTurn K). ends x.key x.shown outcome) same next.2)

-- what is so by one name of a key is so by another
pub by_key : {K X : Type 0} (after : X) (made : K → X) (given key : K) → after ≡ made given → key ≡ given → after ≡ made key
by_key after made given key is same = is ∙ ap made (sym same)
