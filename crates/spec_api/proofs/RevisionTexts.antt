-- The text of a revision is read as that revision.
use Rattle.std.proofs.Common.{◌≡◌, ◌<◌, ◌+◌, ◌%◌, ◌^◌, ◌&&◌, ◌||◌, ◌==◌, not, ℕ, zero, suc, nat_lt, nat_le, List, [], ◌∷◌, ◌++◌, length, get_or, slice_index, Bool, true, false, Some, None, decimal, refl, ap, ◌∙◌, arith, if◌then◌else◌}
use Rattle.std.proofs.lemmas.Bool.{ne_eqb}
use Rattle.std.specs.List.{list_all}
use Rattle.std.specs.Str.Parse.{digits_value}
use Rattle.std.proofs.lemmas.Fmt.{decimal_is_IsNumeral, decimal_nonempty, first_decimal, decimal_digit, decimal_by_steps}
use Rattle.spec_api.specs.Moments.{is_digit}
use Rattle.spec_api.specs.Revisions.{revision_of}

digit : (n : ℕ) → n < 10 → is_digit (48 + n) ≡ true
digit n h = let a : nat_le 48 (48 + n) ≡ true = grind arith in let b : nat_le (48 + n) 57 ≡ true = grind arith in rw (a, b) refl

both : (a b c : Bool) → (a && b) ≡ true → (b ≡ true → c ≡ true) → (a && c) ≡ true
both true b c h f = f h
both false b c h f = h

pushed : (ds : List ℕ) (x : ℕ) → list_all is_digit ds ≡ true → is_digit x ≡ true → list_all is_digit (ds ++ x ∷ []) ≡ true
pushed [] x h d = rw d refl
pushed (y ∷ ds) x h d = both (is_digit y) (list_all is_digit ds) (list_all is_digit (ds ++ x ∷ [])) h (λ k. pushed ds x k d)

all_digits : (n : ℕ) → n < 2 ^ 64 → list_all is_digit (decimal n) ≡ true
all_digits = decimal_by_steps (λ n ds. list_all is_digit ds ≡ true) (λ n h. pushed [] (48 + n) refl (digit n h)) (λ n ds h k. pushed ds (48 + n % 10) k (digit (n % 10) (omega arith)))

all_hold : (a b c d x : Bool) → a ≡ true → b ≡ true → c ≡ false → d ≡ true → (a && b && (x || not c) && d) ≡ true
all_hold a b c d true ea eb ec ed = rw (ea, eb, ed) refl
all_hold a b c d false ea eb ec ed = rw (ea, eb, ec, ed) refl

revision_from : (t : List ℕ) (r : ℕ) → nat_lt 0 (length t) ≡ true → list_all is_digit t ≡ true → (slice_index t 0 == 48) ≡ false → digits_value 10 t ≡ r → nat_lt r 9007199254740992 ≡ true → revision_of t ≡ Some r
revision_from t r a b c d e =
    ap (λ z. if z then Some (digits_value 10 t) else None)
    (all_hold (nat_lt 0 (length t)) (list_all is_digit t) (slice_index t 0 == 48) (nat_lt (digits_value 10 t) 9007199254740992) (length t == 1) a b c (ap (λ n. nat_lt n 9007199254740992) d ∙ e))
    ∙ ap Some d

below : (r : ℕ) → r < 2 ^ 53 → nat_lt r 9007199254740992 ≡ true
below r h = grind arith

above_zero : (t : List ℕ) → 0 < length t → nat_lt 0 (length t) ≡ true
above_zero t h = grind arith

no_zero : (x : ℕ) → 48 < x → (x == 48) ≡ false
no_zero x h = ne_eqb x 48 (λ e. absurd (omega arith))

pub revision_is : (r : ℕ) → r < 2 ^ 53 → revision_of (decimal r) ≡ Some r
revision_is zero h = ap revision_of (decimal_digit 0 (omega arith))
revision_is (suc r) h =
    revision_from (decimal (suc r)) (suc r) (above_zero (decimal (suc r)) (decimal_nonempty (suc r) (omega arith))) (all_digits (suc r) (omega arith))
    (no_zero (get_or (decimal (suc r)) 0 0) (first_decimal (suc r) (omega arith) (omega arith))) (decimal_is_IsNumeral (suc r) (omega arith)).1 (below (suc r) h)
