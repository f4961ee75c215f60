-- When a decimal text is read as a number of 32 bits.
use Rattle.std.proofs.Common.{◌≡◌, ℕ, ◌<◌, ◌^◌, List, length, drop, Bool, true, false, cond, nat_lt, ◌&&◌, ℤ, pos, negsuc, refl, sym, subst, FitsSigned, w32, arith}
use Rattle.std.proofs.lemmas.Bool.Decides.{nat_tests}
use Rattle.std.specs.List.{list_all}
use Rattle.std.specs.Str.Parse.{IsNumeral, starts_with_minus, without_leading_plus, without_leading_sign}
use Rattle.spec_api.proofs.Truths.{both_true}
use Rattle.spec_api.specs.Moments.{is_digit}
use Rattle.spec_reconcile.specs.PodRanks.{is_decimal, is_of_32_bits}
use Rattle.metadata_values.proofs.Digits.{all-digits, no-plus}

numeral : (t : List ℕ) → (nat_lt 0 (length t) && list_all is_digit t) ≡ true → IsNumeral 10 t
numeral t h =
    let b = both_true (nat_lt 0 (length t)) (list_all is_digit t) h in
    let l : nat_lt 0 (length t) ≡ true = b.0 in
    (grind (arith, nat_tests), all-digits t b.1)

unsigned-at : (minus : Bool) (t : List ℕ) → (nat_lt 0 (length (cond minus (drop 1 t) t)) && list_all is_digit (cond minus (drop 1 t) t)) ≡ true → IsNumeral 10 (cond minus (drop 1 t) (without_leading_plus t))
unsigned-at true t h = numeral (drop 1 t) h
unsigned-at false t h = subst (IsNumeral 10) (sym (no-plus t (both_true (nat_lt 0 (length t)) (list_all is_digit t) h).1)) (numeral t h)

pub unsigned : (t : List ℕ) → is_decimal t ≡ true → IsNumeral 10 (without_leading_sign t)
unsigned t h = unsigned-at (starts_with_minus t) t h

too_large : (n : ℕ) (b : Bool) → nat_lt n (2 ^ 31) ≡ b → (n < 2 ^ 31 → ⊥) → b ≡ false
too_large n true e out = absurd (out (grind (arith, nat_tests)))
too_large n false e out = refl

pub not_of_32_bits : (z : ℤ) → (FitsSigned w32 z → ⊥) → is_of_32_bits z ≡ false
not_of_32_bits (pos n) out = too_large n (nat_lt n (2 ^ 31)) refl (λ l. out (record { sfits = l }))
not_of_32_bits (negsuc n) out = too_large n (nat_lt n (2 ^ 31)) refl (λ l. out (record { sfits = l }))
