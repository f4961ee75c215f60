-- Which delays are due, and which are left.
use Rattle.std.specs.Prelude.{◌≡◌, ◌↔◌, ◌<◌, ◌≤◌, ℕ, List, Some, unwrap_or}
use Rattle.std.specs.FinMap as map
use Rattle.std.specs.List.{Contains}
use Rattle.std.specs.List.Sorted.{IsStrictlySortedBy}
use Rattle.spec_client_go.specs.WorkQueues.{WorkKey}
use Rattle.spec_client_go.specs.Delays.{Delays, Alarm, alarm_cmp, due, still_delayed}

-- a key that is delayed to a moment that has come
abbrev pub IsDue : ℕ → Delays → WorkKey → Type 0
IsDue now m k = (at : ℕ) × (map.get m k ≡ Some at) × (at ≤ now)

-- the moment to which a key is delayed, and the key
abbrev pub alarm_at : Delays → WorkKey → Alarm
alarm_at m k = record { at = unwrap_or (map.get m k) 0; task = k }

-- by moment, and keys of one moment in the order of keys, each key once
abbrev pub AreInTurn : Delays → List WorkKey → Type 0
AreInTurn m ks = IsStrictlySortedBy (λ j k. alarm_cmp (alarm_at m j) (alarm_at m k)) ks

-- the keys that are due are those whose moment has come, and no others
abbrev pub DueHaveCome : Type 0
DueHaveCome = (now : ℕ) (m : Delays) (k : WorkKey) → Contains (due now m) k ↔ IsDue now m k

-- in the order of their moments
abbrev pub DueAreInTurn : Type 0
DueAreInTurn = (now : ℕ) (m : Delays) → AreInTurn m (due now m)

-- and no other list is both
abbrev pub DueAreTheOnlyList : Type 0
DueAreTheOnlyList = (now : ℕ) (m : Delays) (ks : List WorkKey) → ((k : WorkKey) → Contains ks k ↔ IsDue now m k) → AreInTurn m ks → ks ≡ due now m

-- what is still delayed are the keys whose moment is later, at their moments
abbrev pub StillDelayedAreLater : Type 0
StillDelayedAreLater = (now : ℕ) (m : Delays) (k : WorkKey) (at : ℕ) → (map.get (still_delayed now m) k ≡ Some at) ↔ ((map.get m k ≡ Some at) × (now < at))
