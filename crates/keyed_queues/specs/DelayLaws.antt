-- Which delays of keys of any type are due, and which are left.
use Rattle.std.specs.Prelude.{◌≡◌, ◌↔◌, ◌<◌, ℕ, List, Some}
use Rattle.std.specs.FinMap as map
use Rattle.std.specs.List.{Contains}
use Rattle.std.specs.declared.cmp.Ordering.{Ordering}
use Rattle.spec_client_go.specs.KeyDelays.{KeyDelays, due, still_delayed}
pub use Rattle.spec_client_go.specs.KeyDelays.{IsDue, alarm_at, AreInTurn}

-- the keys that are due are those whose moment has come, and no others
abbrev pub DueHaveCome : {N : Type 0} → (N → N → Ordering) → Type 0
DueHaveCome {N = N} R = (now : ℕ) (m : KeyDelays R) (k : N) → Contains (due now m) k ↔ IsDue now m k

-- in the order of their moments
abbrev pub DueAreInTurn : {N : Type 0} → (N → N → Ordering) → Type 0
DueAreInTurn R = (now : ℕ) (m : KeyDelays R) → AreInTurn m (due now m)

-- and no other list is both
abbrev pub DueAreTheOnlyList : {N : Type 0} → (N → N → Ordering) → Type 0
DueAreTheOnlyList {N = N} R = (now : ℕ) (m : KeyDelays R) (ks : List N) → ((k : N) → Contains ks k ↔ IsDue now m k) → AreInTurn m ks → ks ≡ due now m

-- what is still delayed are the keys whose moment is later, at their moments
abbrev pub StillDelayedAreLater : {N : Type 0} → (N → N → Ordering) → Type 0
StillDelayedAreLater {N = N} R = (now : ℕ) (m : KeyDelays R) (k : N) (at : ℕ) → (map.get (still_delayed now m) k ≡ Some at) ↔ ((map.get m k ≡ Some at) × (now < at))
