-- Clocks that fall back, and clocks that do not.
use Rattle.std.proofs.Common.{◌≤◌, ℕ, List, [], ◌∷◌, arith}
use Rattle.metadata_values.specs.Stopwatches.{NeverFalls, shown_last, AllIsCounted, FallsAreNotCounted}

no_less : (seen : ℕ) (shown : List ℕ) → NeverFalls seen shown → seen ≤ shown_last seen shown
no_less seen [] rises = omega arith
no_less seen (now ∷ more) rises = let rest = no_less now more rises.1 in omega (arith, rises.0, rest)

pub all_counted : AllIsCounted
all_counted seen [] rises = omega arith
all_counted seen (now ∷ more) rises =
    let rest = all_counted now more rises.1 in
    let up = no_less now more rises.1 in
    omega (arith, rises.0, rest, up)

pub falls_not_counted : FallsAreNotCounted
falls_not_counted seen now more falls = omega (arith, falls)
