-- Numbers as digits write them.
use Rattle.std.proofs.Common.{◌≤◌, ℕ, ◌+◌, ◌*◌, List, [], ◌∷◌, arith}
use Rattle.std.specs.Char.{digit_value}
use Rattle.std.specs.Str.Parse.{digits_value_after}

-- further digits make no number less
pub grows : (n : ℕ) (ds : List ℕ) → n ≤ digits_value_after 10 n ds
grows n [] = omega arith
grows n (d ∷ ds) =
    let more : n * 10 + digit_value d ≤ digits_value_after 10 (n * 10 + digit_value d) ds = grows (n * 10 + digit_value d) ds in
    omega (arith, more)
