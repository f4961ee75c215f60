-- Digits that are read as a number.
use Rattle.std.proofs.Common.{◌≡◌, ℕ, zero, suc, ◌<◌, ◌≤◌, ◌^◌, List, [], ◌∷◌, length, Bool, true, false, None, Some, ◌&&◌, ◌||◌, not, slice_index, nat_lt, nat_le, ◌==◌, if◌then◌else◌, refl, sym, subst, arith, IsUtf8, IsAscii}
use Rattle.std.proofs.lemmas.Bool.Decides.{nat_tests}
use Rattle.std.proofs.lemmas.Str.{IsUtf8-from_ascii}
use Rattle.std.proofs.lemmas.Str.Parse.{IsNumeralModel, numerals_by_value, tells_all_ascii_digits, digits_value_short, without_leading_plus_none, not_in_digits}
use Rattle.std.specs.Char.{is_ascii_digit}
use Rattle.std.specs.List.{list_all}
use Rattle.std.specs.Str.{all_ascii_digits}
use Rattle.std.specs.Str.Parse.{digits_value, IsNumeral, without_leading_plus}
use Rattle.spec_api.proofs.Truths.{both_true}
use Rattle.spec_api.specs.Moments.{is_digit}
use Rattle.spec_api.specs.Revisions.{revision_of}
use Rattle.spec_sim.specs.StepLines.{number_of}
use Rattle.sim_steps.specs.Words.{is_number}

-- ---- digits are text

digit-ascii : (x : ℕ) → is_digit x ≡ true → x < 128
digit-ascii x h =
    let m : nat_le x 57 ≡ true = (both_true (nat_le 48 x) (nat_le x 57) h).1 in
    grind (arith, nat_tests)

digits-ascii : (t : List ℕ) → list_all is_digit t ≡ true → IsAscii t
digits-ascii [] h i = omega arith
digits-ascii (x ∷ t) h zero = digit-ascii x (both_true (is_digit x) (list_all is_digit t) h).0
digits-ascii (x ∷ t) h (suc i) = digits-ascii t (both_true (is_digit x) (list_all is_digit t) h).1 i

is_not : (b : Bool) → (b ≡ true → ⊥) → b ≡ false
is_not true h = absurd (h refl)
is_not false h = refl

no-digits : (t : List ℕ) → (IsUtf8 t → ⊥) → list_all is_digit t ≡ false
no-digits t h = is_not (list_all is_digit t) (λ e. h (IsUtf8-from_ascii t (digits-ascii t e)))

-- bytes that are no text are no number, and no revision
pub no_number : (t : List ℕ) → (IsUtf8 t → ⊥) → None ≡ number_of t
no_number t h = by (nat_lt 0 (length t) && nat_le (length t) 9) (list_all is_digit t) (no-digits t h)
  where
    by : (a b : Bool) → b ≡ false → None ≡ (if a && b then Some (digits_value 10 t) else None)
    by false b e = refl
    by true false e = refl
    by true true e = cc

none-by : (a b c d : Bool) (n : ℕ) → b ≡ false → None ≡ (if a && b && c && d then Some n else None)
none-by false b c d n e = refl
none-by true false c d n e = refl
none-by true true c d n e = cc

pub no_revision : (t : List ℕ) → (IsUtf8 t → ⊥) → None ≡ revision_of t
no_revision t h =
    none-by (nat_lt 0 (length t)) (list_all is_digit t) ((length t == 1) || not (slice_index t 0 == 48)) (nat_lt (digits_value 10 t) 9007199254740992) (digits_value 10 t) (no-digits t h)

-- ---- a number is parsed

same-digit : (x : ℕ) → is_digit x ≡ true → is_ascii_digit x ≡ true
same-digit x h =
    let b = both_true (nat_le 48 x) (nat_le x 57) h in
    let l : nat_le 48 x ≡ true = b.0 in
    let m : nat_le x 57 ≡ true = b.1 in
    grind (arith, nat_tests)

digits : (t : List ℕ) → list_all is_digit t ≡ true → all_ascii_digits t ≡ true
digits [] h = refl
digits (x ∷ t) h =
    let b = both_true (is_digit x) (list_all is_digit t) h in
    rw (same-digit x b.0, digits t b.1) refl

numerals : IsNumeralModel (λ ds. all_ascii_digits ds ≡ true) (digits_value 10)
numerals = numerals_by_value (λ ds. all_ascii_digits ds ≡ true) tells_all_ascii_digits

pub no-sign : (t : List ℕ) → is_number t ≡ true → without_leading_plus t ≡ t
no-sign t h =
    let b = both_true (nat_lt 0 (length t) && nat_le (length t) 9) (list_all is_digit t) h in
    let n = both_true (nat_lt 0 (length t)) (nat_le (length t) 9) b.0 in
    let some : nat_lt 0 (length t) ≡ true = n.0 in
    without_leading_plus_none t (not_in_digits numerals t 43 (digits t b.1) (λ r. omega (arith, r.0)) 0 (grind (arith, nat_tests)))

-- a number of nine digits or fewer is parsed
pub parsed : (t : List ℕ) → is_number t ≡ true → (IsNumeral 10 (without_leading_plus t) × (digits_value 10 (without_leading_plus t) < 2 ^ 64) → ⊥) → ⊥
parsed t h out =
    let b = both_true (nat_lt 0 (length t) && nat_le (length t) 9) (list_all is_digit t) h in
    let n = both_true (nat_lt 0 (length t)) (nat_le (length t) 9) b.0 in
    let some : nat_lt 0 (length t) ≡ true = n.0 in
    let few : nat_le (length t) 9 ≡ true = n.1 in
    let long : 0 < length t = grind (arith, nat_tests) in
    let short : length t ≤ 9 = grind (arith, nat_tests) in
    let value = digits_value_short numerals t 9 (digits t b.1) short in
    let P : List ℕ → Type 0 = λ z. IsNumeral 10 z × (digits_value 10 z < 2 ^ 64) in
    out (subst P (sym (no-sign t h)) ((long, numerals.to t (digits t b.1)), omega (arith, value)))
