-- Digits that are read as a number.
use Rattle.std.proofs.Common.{◌≡◌, ℕ, ◌<◌, ◌^◌, List, [], ◌∷◌, length, Bool, true, false, Some, None, refl, sym, arith, subst, ◌&&◌, ◌||◌, not, nat_lt, nat_le, ◌==◌, slice_index, if◌then◌else◌}
use Rattle.std.proofs.lemmas.Bool.Decides.{nat_tests}
use Rattle.std.specs.List.{list_all}
use Rattle.std.specs.Char.{digit_value}
use Rattle.std.specs.Str.Parse.{AllDigits, IsNumeral, digits_value, without_leading_plus}
use Rattle.spec_api.proofs.Truths.{both_true}
use Rattle.spec_api.specs.Moments.{is_digit}
use Rattle.spec_api.specs.Revisions.{revision_of}

-- a digit's value
digit-small : (x : ℕ) → is_digit x ≡ true → digit_value x < 10
digit-small x h =
    let b = both_true (nat_le 48 x) (nat_le x 57) h in
    let l : nat_le 48 x ≡ true = b.0 in
    let m : nat_le x 57 ≡ true = b.1 in
    grind (arith, nat_tests)

-- digits are a numeral
pub all-digits : (t : List ℕ) → list_all is_digit t ≡ true → AllDigits 10 t
all-digits [] h = tt
all-digits (x ∷ t) h =
    let b = both_true (is_digit x) (list_all is_digit t) h in
    (digit-small x b.0, all-digits t b.1)

-- digits do not begin with a plus
pub no-plus : (t : List ℕ) → list_all is_digit t ≡ true → without_leading_plus t ≡ t
no-plus [] h = refl
no-plus (x ∷ t) h =
    let b = both_true (is_digit x) (list_all is_digit t) h in
    let d = both_true (nat_le 48 x) (nat_le x 57) b.0 in
    let l : nat_le 48 x ≡ true = d.0 in
    let n : (x == 43) ≡ false = grind (arith, nat_tests) in
    rw n refl

none-by : (a b c d : Bool) (n : ℕ) → d ≡ false → None ≡ (if a && b && c && d then Some n else None)
none-by a b c true n e = cc
none-by true true true false n e = refl
none-by true true false false n e = refl
none-by true false c false n e = refl
none-by false b c false n e = refl

-- digits that are no number of 64 bits are no revision
pub too-large : (t : List ℕ) → list_all is_digit t ≡ true → 0 < length t
    → (IsNumeral 10 (without_leading_plus t) × (digits_value 10 (without_leading_plus t) < 2 ^ 64) → ⊥) → None ≡ revision_of t
too-large t h l out =
    let n : nat_lt (digits_value 10 t) 9007199254740992 ≡ false = by (nat_lt (digits_value 10 t) 9007199254740992) refl in
    none-by (nat_lt 0 (length t)) (list_all is_digit t) ((length t == 1) || not (slice_index t 0 == 48)) (nat_lt (digits_value 10 t) 9007199254740992) (digits_value 10 t) n
  where
    by : (v : Bool) → nat_lt (digits_value 10 t) 9007199254740992 ≡ v → v ≡ false
    by true e =
        let s : digits_value 10 t < 9007199254740992 = grind (arith, nat_tests) in
        let P : List ℕ → Type 0 = λ z. IsNumeral 10 z × (digits_value 10 z < 2 ^ 64) in
        absurd (out (subst P (sym (no-plus t h)) ((l, all-digits t h), omega arith)))
    by false e = refl
