-- Where the first byte of a list is that passes a test.
use Rattle.std.proofs.Common.{◌≡◌, ℕ, suc, ◌<◌, ◌≤◌, List, [], ◌∷◌, Bool, true, false, nat_lt, length, get_or, refl, arith}
use Rattle.std.proofs.lemmas.Bool.Decides.{nat_tests}
use Rattle.std.proofs.lemmas.List.Sums.{fails_before_first}
use Rattle.std.specs.List.{list_any, position_or_len}
use Rattle.spec_api.proofs.Truths.{not_both}

pub none-passes : (p : ℕ → Bool) (t : List ℕ) → ((k : ℕ) → k < length t → p (get_or t k 0) ≡ false) → list_any p t ≡ false
none-passes p [] h = refl
none-passes p (x ∷ t) h =
    let here : p x ≡ false = h 0 (omega arith) in
    rw here (none-passes p t (λ k l. h (suc k) (omega (arith, l))))

pub some-place : (p : ℕ → Bool) (t : List ℕ) → list_any p t ≡ true → position_or_len p t < length t
some-place p t h = by (nat_lt (position_or_len p t) (length t)) refl
  where
    by : (v : Bool) → nat_lt (position_or_len p t) (length t) ≡ v → position_or_len p t < length t
    by true e = grind (arith, nat_tests)
    by false e =
        let far : length t ≤ position_or_len p t = grind (arith, nat_tests) in
        let n : list_any p t ≡ false = none-passes p t (λ k l. fails_before_first p t k 0 (omega (arith, far, l))) in
        absurd (not_both (list_any p t) h n)
