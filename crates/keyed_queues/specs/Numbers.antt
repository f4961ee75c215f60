-- Numbers by key, as lists of keys with their numbers.
use Rattle.std.specs.Prelude.{ℕ, List}
use Rattle.std.specs.Coded.{Coded, coded×, coded_list, coded_ℕ}
use Rattle.std.specs.FinMap as map
use Rattle.std.specs.declared.cmp.Ordering.{Ordering}
use Rattle.object_keys.specs.Seen.{seen_map}

-- the numbers by what the keys say
abbrev pub said : {K N : Type 0} (R : N → N → Ordering) → (K → N) → List (K × ℕ) → map.FinMap R ℕ
said R say es = seen_map R say (λ n. n) es

abbrev pub coded_numbers : {K : Type 0} → Coded K → Coded (List (K × ℕ))
coded_numbers c = coded_list (coded× c coded_ℕ)
