-- Numbers as heads write them.
use Rattle.std.proofs.Common.{◌≡◌, ◌≤◌, ◌<◌, ◌^◌, ℕ, zero, suc, List, [], ◌∷◌, length, reverse, true, false, IsTrue, Some, refl, subst, rules, arith, decimal}
use Rattle.std.specs.Char.{is_ascii_digit}
use Rattle.std.specs.Int.{IsInRange}
use Rattle.std.specs.List.{list_all}
use Rattle.std.specs.Str.Parse.{AllDigits, digits_value}
use Rattle.std.proofs.lemmas.Fmt.{decimal_is_IsNumeral, length-decimal-le, decimal_nonempty}
use Rattle.std.proofs.lemmas.Int.Digits.{digits_value-lt}
use Rattle.std.proofs.lemmas.List.Elements.{All-head}
use Rattle.std.proofs.lemmas.List.Sums.{AllPass-from_list_all}
use Rattle.std.proofs.lemmas.Str.Parse.{digit_from_value}
use Rattle.httparse.specs.Grammar.{AllPass, is_value_byte, is_ows, skip_ows, trim_ows}
use Rattle.httparse.proofs.TrimLemmas.{AllPass-reverse, trim_ows_space}
use Rattle.spec_http.specs.Heads.{is_number, one_number}

digit_passes : (c : ℕ) → IsInRange 48 57 c → is_ascii_digit c ≡ true
digit_passes c r = search rules

digit_in_value : (c : ℕ) → IsInRange 48 57 c → is_value_byte c ≡ true
digit_in_value c r = search rules

digit_stays : (c : ℕ) → is_ascii_digit c ≡ true → is_ows c ≡ false
digit_stays c r = search rules

digits_pass : (ds : List ℕ) → AllDigits 10 ds → list_all is_ascii_digit ds ≡ true
digits_pass [] all = refl
digits_pass (c ∷ cs) (here, all) = rw (digit_passes c (digit_from_value c here)) (digits_pass cs all)

digits_in_value : (ds : List ℕ) → AllDigits 10 ds → list_all is_value_byte ds ≡ true
digits_in_value [] all = refl
digits_in_value (c ∷ cs) (here, all) = rw (digit_in_value c (digit_from_value c here)) (digits_in_value cs all)

digits_skip : (ds : List ℕ) → AllPass is_ascii_digit ds → skip_ows ds ≡ ds
digits_skip [] all = refl
digits_skip (c ∷ cs) all =
    let first : is_ascii_digit c ≡ true = All-head (λ x. IsTrue (is_ascii_digit x)) c cs all in
    rw (digit_stays c first) refl

pub trimmed : (n : ℕ) → n < 2 ^ 64 → trim_ows (32 ∷ decimal n) ≡ decimal n
trimmed n small =
    let all = AllPass-from_list_all is_ascii_digit (decimal n) (digits_pass (decimal n) (decimal_is_IsNumeral n small).0.1) in
    trim_ows_space (decimal n) (digits_skip (decimal n) all) (digits_skip (reverse (decimal n)) (AllPass-reverse is_ascii_digit (decimal n) all))

pub stated : (n : ℕ) → n < 2 ^ 64 → one_number (decimal n) ≡ Some (Some n)
stated n small =
    let some : 0 < length (decimal n) = decimal_nonempty n small in
    let pass : list_all is_ascii_digit (decimal n) ≡ true = digits_pass (decimal n) (decimal_is_IsNumeral n small).0.1 in
    let value : digits_value 10 (decimal n) ≡ n = (decimal_is_IsNumeral n small).1 in
    let number : is_number (decimal n) ≡ true = search rules in
    rw (number, value) refl

pub in_value : (n : ℕ) → n < 2 ^ 64 → AllPass is_value_byte (decimal n)
in_value n small = AllPass-from_list_all is_value_byte (decimal n) (digits_in_value (decimal n) (decimal_is_IsNumeral n small).0.1)

pub are_digits : (n : ℕ) → n < 2 ^ 64 → AllPass is_ascii_digit (decimal n)
are_digits n small = AllPass-from_list_all is_ascii_digit (decimal n) (digits_pass (decimal n) (decimal_is_IsNumeral n small).0.1)

width : (n v : ℕ) → n ≤ 3 → 100 ≤ v → v < 10 ^ n → n ≡ 3
width zero v few low high = absurd (omega (arith, low, high))
width (suc zero) v few low high = absurd (omega (arith, low, high))
width (suc (suc zero)) v few low high = absurd (omega (arith, low, high))
width (suc (suc (suc zero))) v few low high = refl
width (suc (suc (suc (suc n)))) v few low high = absurd (omega (arith, few))

pub three_digits : (n : ℕ) → 100 ≤ n → n < 1000 → length (decimal n) ≡ 3
three_digits n low high =
    let small : n < 2 ^ 64 = omega (arith, high) in
    let numeral = decimal_is_IsNumeral n small in
    width (length (decimal n)) n (length-decimal-le 3 n (omega arith) high small) low
    (subst (λ v. v < 10 ^ length (decimal n)) numeral.1 (digits_value-lt 10 (decimal n) numeral.0.1))
