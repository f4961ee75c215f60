-- Few digits are a number of 64 bits.
use Rattle.std.proofs.Common.{◌≡◌, ℕ, ◌<◌, ◌≤◌, ◌^◌, List, length, true, sym, arith, subst}
use Rattle.std.proofs.Math.Nat.{pow-le-pow_right}
use Rattle.std.proofs.lemmas.Int.Digits.{digits_value-lt}
use Rattle.std.specs.List.{list_all}
use Rattle.std.specs.Str.Parse.{IsNumeral, digits_value, without_leading_plus}
use Rattle.spec_api.specs.Moments.{is_digit}
use Rattle.metadata_values.proofs.Digits.{all-digits, no-plus}

pub is_read : (t : List ℕ) → list_all is_digit t ≡ true → 0 < length t → length t ≤ 18 → IsNumeral 10 (without_leading_plus t) × (digits_value 10 (without_leading_plus t) < 2 ^ 64)
is_read t h l few =
    let P : List ℕ → Type 0 = λ z. IsNumeral 10 z × (digits_value 10 z < 2 ^ 64) in
    let below : digits_value 10 t < 10 ^ length t = digits_value-lt 10 t (all-digits t h) in
    let ten : 0 < 10 = omega arith in
    let most : 10 ^ length t ≤ 10 ^ 18 = pow-le-pow_right ten few in
    subst P (sym (no-plus t h)) ((l, all-digits t h), omega (arith, below, most))

pub is_small : (t : List ℕ) → list_all is_digit t ≡ true → length t ≤ 18 → digits_value 10 t < 2 ^ 60
is_small t h few =
    let below : digits_value 10 t < 10 ^ length t = digits_value-lt 10 t (all-digits t h) in
    let ten : 0 < 10 = omega arith in
    let most : 10 ^ length t ≤ 10 ^ 18 = pow-le-pow_right ten few in
    omega (arith, below, most)
