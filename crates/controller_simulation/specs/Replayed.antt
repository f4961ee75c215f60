-- What a reconcile asked that was run once more, by what was noted before.
use Rattle.std.specs.Prelude.{◌≡◌, ◌⊎◌, List, [], ◌∷◌, Bool, true, false, String, ⊤}
use Rattle.std.specs.Global.{Global}
use Rattle.spec_server.specs.Snapshots.{Snapshot}
use Rattle.object_keys.specs.declared.per_kind.PerKind.{PerKind}
use Rattle.keyed_board.specs.declared.outcome.Outcome.{Outcome}
use Rattle.request_encoding.specs.Texts.{can_be_told}
use Rattle.reconciler.specs.Traces.{Trace}
use Rattle.controller_simulation.specs.Answers.{came_of, not_sent}
use Rattle.controller_simulation.specs.Playing.{LineOf}
use Rattle.controller_simulation.specs.declared.past.PastRequest.{PastRequest}
use Rattle.controller_simulation.specs.declared.turns.Next.{Next}
use Rattle.controller_simulation.specs.declared.turns.Next.TheVariants.{Asks, Ends, Differs}

-- each of these requests that has a line is the next that was noted, and was answered as is noted; one that cannot be told was not sent; and nothing else was noted
abbrev pub IsNoted : List PastRequest → Trace → Type 0
IsNoted notes [] = notes ≡ []
IsNoted notes (e ∷ es) =
    ((note : PastRequest) × (rest : List PastRequest) × (notes ≡ note ∷ rest) × LineOf e.0 note.line × (came_of e.1 ≡ came_of note.answer) × IsNoted rest es)
    ⊎ ((can_be_told e.0 ≡ false) × (came_of e.1 ≡ not_sent) × IsNoted notes es)

-- each of these requests that has a line is the next that was noted, and was answered as is noted, up to one of this line, beyond all that was noted, which was not sent
abbrev pub AsksNext : List PastRequest → String Global → Trace → Type 0
AsksNext notes line [] = ⊥
AsksNext notes line (e ∷ es) =
    ((note : PastRequest) × (rest : List PastRequest) × (notes ≡ note ∷ rest) × LineOf e.0 note.line × (came_of e.1 ≡ came_of note.answer) × AsksNext rest line es)
    ⊎ (((can_be_told e.0 ≡ false) × (came_of e.1 ≡ not_sent) × AsksNext notes line es) ⊎ ((notes ≡ []) × LineOf e.0 line × (came_of e.1 ≡ not_sent)))

-- where a controller says what its reconciles ask: one that ends asked what it says, and that is what was noted, with what came of it; and one that asks more asks
-- what it says next, after what was noted
abbrev pub ActsAsNoted : {K : Type 0} → Bool → (K → PerKind Snapshot → Trace → Outcome → Type 0) → K → PerKind Snapshot → List PastRequest → Next → Type 0
ActsAsNoted false says key shown notes next = ⊤
ActsAsNoted true says key shown notes (Asks line) = (trace : Trace) × (outcome : Outcome) × AsksNext notes line trace × says key shown trace outcome
ActsAsNoted true says key shown notes (Ends outcome) = (trace : Trace) × IsNoted notes trace × says key shown trace outcome
ActsAsNoted true says key shown notes Differs = ⊤
