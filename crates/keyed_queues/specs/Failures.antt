-- How often keys of any type failed in a row, by the names that the keys say and the order of names.
use Rattle.std.specs.Prelude.{ℕ, ◌+◌, min, unwrap_or, Option, Some, None}
use Rattle.std.specs.FinMap as map
use Rattle.std.specs.declared.cmp.Ordering.{Ordering}

-- for each key that failed, how often in a row
abbrev pub KeyFailures : {N : Type 0} → (N → N → Ordering) → Type 0
KeyFailures R = map.FinMap R ℕ

abbrev pub failures : {N : Type 0} {R : N → N → Ordering} → N → KeyFailures R → ℕ
failures k m = unwrap_or (map.get m k) 0

-- one more, of which 32 are counted
abbrev pub failed : {N : Type 0} {R : N → N → Ordering} → N → KeyFailures R → KeyFailures R
failed k m = map.insert m k (min (failures k m + 1) 32)

-- the failures of a key are again what they were
abbrev pub restored : {N : Type 0} {R : N → N → Ordering} → N → Option ℕ → KeyFailures R → KeyFailures R
restored k None m = map.remove m k
restored k (Some f) m = map.insert m k f
