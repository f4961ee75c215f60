-- Keys of any type that come due, by moment and then in the order of keys.
use Rattle.std.specs.Prelude.{◌≡◌, ◌≤◌, ℕ, List, [], ◌∷◌, Option, Some, None, unwrap_or, not, nat_le, map as list_map}
use Rattle.std.specs.List.{filter}
use Rattle.std.specs.List.Sorted.{IsStrictlySortedBy}
use Rattle.std.specs.Ordering.{nat_cmp, then_cmp, on}
use Rattle.std.specs.FinMap as map
use Rattle.std.specs.FinSet as set
use Rattle.std.specs.declared.cmp.Ordering.{Ordering}
use Rattle.spec_client_go.specs.Delays.{earlier, has_come}

-- for each key with a delay, the moment when it is added
abbrev pub KeyDelays : {N : Type 0} → (N → N → Ordering) → Type 0
KeyDelays R = map.FinMap R ℕ

-- a key that is delayed twice keeps the earlier moment
abbrev pub delayed : {N : Type 0} {R : N → N → Ordering} → N → ℕ → KeyDelays R → KeyDelays R
delayed k at m = map.insert m k (earlier (map.get m k) at)

-- a key and the moment when it is added
pub record KeyAlarm (N : Type 0) : Type 0 where
  pub at : ℕ
  pub key : N

-- keys come due by moment, and those of one moment in the order of keys
abbrev pub alarm_cmp : {N : Type 0} → (N → N → Ordering) → KeyAlarm N → KeyAlarm N → Ordering
alarm_cmp {N = N} R = then_cmp (on (λ (a : KeyAlarm N). a.at) nat_cmp) (on (λ (a : KeyAlarm N). a.key) R)

abbrev pub alarm_of : {N : Type 0} → N × ℕ → KeyAlarm N
alarm_of e = record { at = e.1; key = e.0 }

-- the alarms of the keys that are delayed, in that order
abbrev pub alarms : {N : Type 0} {R : N → N → Ordering} → KeyDelays R → List (KeyAlarm N)
alarms {N = N} {R = R} m = map.keys (map.from_entries {X = Unit {0}} {R = alarm_cmp R} (list_map {B = KeyAlarm N × Unit {0}} (λ (e : N × ℕ). (alarm_of e, tt)) (map.entries m)))

-- the keys whose moment has come, in that order
abbrev pub due : {N : Type 0} {R : N → N → Ordering} → ℕ → KeyDelays R → List N
due {N = N} now m = list_map (λ (a : KeyAlarm N). a.key) (filter (λ (a : KeyAlarm N). nat_le a.at now) (alarms m))

-- the moment of the first of these alarms
abbrev pub first_moment : {N : Type 0} → List (KeyAlarm N) → Option ℕ
first_moment [] = None
first_moment (a ∷ rest) = Some a.at

-- the moment at which the next key comes due, if one is delayed
abbrev pub next_moment : {N : Type 0} {R : N → N → Ordering} → KeyDelays R → Option ℕ
next_moment m = first_moment (alarms m)

-- the delays that are left when those keys are removed
abbrev pub still_delayed : {N : Type 0} {R : N → N → Ordering} → ℕ → KeyDelays R → KeyDelays R
still_delayed now m = map.retain_keys m (λ k. not (has_come now (map.get m k)))

abbrev pub alarm_set : {N : Type 0} {R : N → N → Ordering} → KeyDelays R → set.FinSet (alarm_cmp R)
alarm_set m = set.from_list (list_map alarm_of (map.entries m))

-- these are the alarms of the delays, in their order
pub record AreAlarms {N : Type 0} (R : N → N → Ordering) (m : KeyDelays R) (ks : List (KeyAlarm N)) : Type 0 where
  pub in_order : IsStrictlySortedBy (alarm_cmp R) ks
  pub are : set.from_list ks ≡ alarm_set m

-- a key that is delayed to a moment that has come
abbrev pub IsDue : {N : Type 0} {R : N → N → Ordering} → ℕ → KeyDelays R → N → Type 0
IsDue now m k = (at : ℕ) × (map.get m k ≡ Some at) × (at ≤ now)

-- the moment to which a key is delayed, and the key
abbrev pub alarm_at : {N : Type 0} {R : N → N → Ordering} → KeyDelays R → N → KeyAlarm N
alarm_at m k = record { at = unwrap_or (map.get m k) 0; key = k }

-- by moment, and keys of one moment in the order of keys, each key once
abbrev pub AreInTurn : {N : Type 0} {R : N → N → Ordering} → KeyDelays R → List N → Type 0
AreInTurn {R = R} m ks = IsStrictlySortedBy (λ j k. alarm_cmp R (alarm_at m j) (alarm_at m k)) ks
