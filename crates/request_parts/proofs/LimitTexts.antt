-- Up to nine digits are a number of 64 bits.
use Rattle.std.proofs.Common.{◌≡◌, ℕ, ◌<◌, ◌≤◌, ◌^◌, List, length, true, sym, subst, arith, rules}
use Rattle.std.specs.List.{list_all}
use Rattle.std.specs.Str.Parse.{AllDigits, IsNumeral, digits_value, without_leading_plus}
use Rattle.std.proofs.lemmas.Str.Parse.{digits_value_short, numerals_by_value}
use Rattle.spec_api.specs.Moments.{is_digit}
use Rattle.metadata_values.proofs.Digits.{all-digits, no-plus}

pub fits : (t : List ℕ) → list_all is_digit t ≡ true → 0 < length t → length t ≤ 9
    → (IsNumeral 10 (without_leading_plus t) × (digits_value 10 (without_leading_plus t) < 2 ^ 64) → ⊥) → ⊥
fits t digits long short out =
    let numeral : AllDigits 10 t = all-digits t digits in
    let small : digits_value 10 t < 10 ^ 9 = digits_value_short (numerals_by_value (AllDigits 10) (search rules)) t 9 numeral short in
    let P : List ℕ → Type 0 = λ z. IsNumeral 10 z × (digits_value 10 z < 2 ^ 64) in
    out (subst P (sym (no-plus t digits)) ((long, numeral), omega (arith, small)))
