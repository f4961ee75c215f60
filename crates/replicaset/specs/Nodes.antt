-- What a map of counts by node says.
use Rattle.std.specs.Prelude.{ℕ, List, unwrap_or}
use Rattle.std.specs.Borrow.{Bor}
use Rattle.std.specs.BTreeMap.{BTreeMap, get_by}
use Rattle.std.specs.Cmp.Lexicographic.{slice_cmp}
use Rattle.std.specs.Ordering.{nat_cmp}

-- how many are counted on a node; none on one that is not named
abbrev pub count_at : List ℕ → BTreeMap (Bor (List ℕ)) ℕ → ℕ
count_at n counts = unwrap_or (get_by (λ k. slice_cmp nat_cmp n k.now) counts) 0
