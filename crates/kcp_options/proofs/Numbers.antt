-- Numbers of a few digits.
use Rattle.std.proofs.Common.{◌≡◌, ℕ, ◌<◌, ◌≤◌, ◌^◌, List, [], ◌∷◌, length, Bool, true, false, ◌&&◌, nat_le, refl, sym, subst, arith}
use Rattle.std.proofs.lemmas.Bool.Decides.{nat_tests}
use Rattle.std.proofs.lemmas.Str.Parse.{IsNumeralModel, numerals_by_value, tells_all_ascii_digits, digits_value_short, without_leading_plus_none, not_in_digits}
use Rattle.std.specs.List.{list_all}
use Rattle.std.specs.Char.{is_ascii_digit}
use Rattle.std.specs.Str.{all_ascii_digits}
use Rattle.std.specs.Str.Parse.{digits_value, IsNumeral, without_leading_plus}
use Rattle.kcp_options.specs.Options.{is_number}

both : (u v : Bool) → (u && v) ≡ true → (u ≡ true) × (v ≡ true)
both true v h = (refl, h)
both false v h = cc

digits : (t : List ℕ) → list_all is_ascii_digit t ≡ true → all_ascii_digits t ≡ true
digits [] h = refl
digits (x ∷ t) h =
    let b = both (is_ascii_digit x) (list_all is_ascii_digit t) h in
    rw (b.0, digits t b.1) refl

numerals : IsNumeralModel (λ ds. all_ascii_digits ds ≡ true) (digits_value 10)
numerals = numerals_by_value (λ ds. all_ascii_digits ds ≡ true) tells_all_ascii_digits

no-sign : (t : List ℕ) → all_ascii_digits t ≡ true → 0 < length t → without_leading_plus t ≡ t
no-sign t h long = without_leading_plus_none t (not_in_digits numerals t 43 h (λ r. omega (arith, r.0)) 0 long)

-- a number of nine digits or fewer is parsed
pub parsed : (t : List ℕ) → is_number t ≡ true → (IsNumeral 10 (without_leading_plus t) × (digits_value 10 (without_leading_plus t) < 2 ^ 64) → ⊥) → ⊥
parsed t h out =
    let b = both (nat_le 1 (length t) && nat_le (length t) 9) (list_all is_ascii_digit t) h in
    let n = both (nat_le 1 (length t)) (nat_le (length t) 9) b.0 in
    let some : nat_le 1 (length t) ≡ true = n.0 in
    let few : nat_le (length t) 9 ≡ true = n.1 in
    let long : 0 < length t = grind (arith, nat_tests) in
    let short : length t ≤ 9 = grind (arith, nat_tests) in
    let value = digits_value_short numerals t 9 (digits t b.1) short in
    let P : List ℕ → Type 0 = λ z. IsNumeral 10 z × (digits_value 10 z < 2 ^ 64) in
    out (subst P (sym (no-sign t (digits t b.1) long)) ((long, numerals.to t (digits t b.1)), omega (arith, value)))
