-- Whose expectations age out between two moments.
use Rattle.std.specs.Prelude.{◌≡◌, ◌&&◌, ℕ, List, map as list_map, Bool, true, false, not, Option, Some, Contains}
use Rattle.std.specs.List.{list_any, filter}
use Rattle.std.specs.List.Sorted.{IsStrictlySortedBy}
use Rattle.std.specs.FinMap as map
use Rattle.spec_client_go.specs.declared.controller.Controller.TheVariants as controller
use Rattle.spec_client_go.specs.Expectations.{Owner, Expectation, Table, is_met, satisfied}
use Rattle.spec_client_go.specs.WorkQueues.{WorkKey, work_key_cmp}
use Rattle.spec_api.specs.Keys.{Key}
use Rattle.expectations.specs.Seen.{Owners}

-- the key by which the controller of ReplicaSets looks at one of them
abbrev pub replica_set : Key → WorkKey
replica_set k = record { controller = controller.ReplicaSet; key = k }

-- The keys are those of just the ReplicaSets that have something left to see, and whose five minutes end after the moment before and by now: each once,
-- and in order.
pub record AreAgedOut (before now : ℕ) (t : Table) (ks : List WorkKey) : Type 0 where
  pub in_order : IsStrictlySortedBy work_key_cmp ks
  pub each : (o : Owner) → satisfied o before t ≡ false → satisfied o now t ≡ true → Contains ks (replica_set o.key)
  pub only : (k : WorkKey) → Contains ks k → (o : Owner) × (k ≡ replica_set o.key) × (satisfied o before t ≡ false) × (satisfied o now t ≡ true)

-- ---- as a walk over the maps finds them

abbrev pub ages_out : ℕ → ℕ → Option Expectation → Bool
ages_out before now e = not (is_met before e) && is_met now e

-- of one of those that have had one key
abbrev pub any_ages_out : ℕ → ℕ → Owners → Bool
any_ages_out before now m = list_any (λ e. ages_out before now (Some e.1)) (map.entries m)

abbrev pub aged_among : ℕ → ℕ → List (Key × Owners) → List WorkKey
aged_among before now es = list_map (λ (e : Key × Owners). replica_set e.0) (filter (λ e. any_ages_out before now e.1) es)
