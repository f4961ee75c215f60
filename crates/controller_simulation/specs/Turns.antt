-- The turns of workers, each with a key.
use Rattle.std.specs.Prelude.{◌≡◌, ℕ, List, Bool, true, false, ◌&&◌, Option, Some, None, slice_get, ⊤}
use Rattle.spec_api.specs.declared.kinds.Kind.{Kind}
use Rattle.spec_server.specs.Snapshots.{Snapshot}
use Rattle.object_keys.specs.PerKind.{with_kind}
use Rattle.object_keys.specs.declared.per_kind.PerKind.{PerKind}
use Rattle.keyed_board.specs.declared.outcome.Outcome.{Outcome}
use Rattle.controller_simulation.specs.declared.playback.Reached.{Reached}
use Rattle.controller_simulation.specs.declared.playback.Reached.TheVariants as reached
use Rattle.controller_simulation.specs.declared.turns.ControllerTurn.{ControllerTurn}
use Rattle.controller_simulation.specs.declared.turns.Next.{Next}
use Rattle.controller_simulation.specs.declared.turns.Next.TheVariants.{Asks, Ends, Differs}

-- each kind was looked at
abbrev pub has_looked : PerKind Bool → Bool
has_looked l = l.config_maps && (l.pods && (l.replica_sets && l.deployments))

-- a turn goes on that is shown this of a kind from now on
abbrev pub HasLooked : {K : Type 0} → Kind → Snapshot → ControllerTurn K → ControllerTurn K → Type 0
HasLooked k s t u = (u.key ≡ t.key) × (u.shown ≡ with_kind k s t.shown) × (u.looked ≡ with_kind k true t.looked) × (u.past.items ≡ t.past.items)

-- where a reconcile ends, it ends so
abbrev pub EndsBy : (Outcome → Type 0) → Next → Type 0
EndsBy Allows (Asks line) = ⊤
EndsBy Allows (Ends outcome) = Allows outcome
EndsBy Allows Differs = ⊤

-- a reconcile that asked all again that was asked before ends; one that asked something new asks it; and one that asked something else, or less, differs
abbrev pub IsNext : Reached → Bool → Outcome → Next → Type 0
IsNext reached.Repeating true outcome next = next ≡ Ends outcome
IsNext reached.Repeating false outcome next = next ≡ Differs
IsNext (reached.Asks line) whole outcome next = next ≡ Asks line
IsNext reached.Differs whole outcome next = next ≡ Differs
IsNext reached.NoMemory whole outcome next = ⊥

-- the turn that a worker is in, if there is such a worker and it is in one
abbrev pub in_place : {K : Type 0} → Option (Option (ControllerTurn K)) → Option (ControllerTurn K)
in_place None = None
in_place (Some t) = t

abbrev pub turn_of : {K : Type 0} → ℕ → List (Option (ControllerTurn K)) → Option (ControllerTurn K)
turn_of w ts = in_place (slice_get ts w)

-- there is such a worker, and it is in no turn
abbrev pub is_free : {K : Type 0} → Option (Option (ControllerTurn K)) → Bool
is_free None = false
is_free (Some None) = true
is_free (Some (Some t)) = false

abbrev pub is_idle : {K : Type 0} → ℕ → List (Option (ControllerTurn K)) → Bool
is_idle w ts = is_free (slice_get ts w)
