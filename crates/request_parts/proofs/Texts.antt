-- Bytes that are text, and bytes that are none.
use Rattle.std.proofs.Common.{◌≡◌, ◌==◌, ◌&&◌, ◌||◌, not, ℕ, zero, suc, ◌<◌, ◌≤◌, List, [], ◌∷◌, Bool, true, false, Option, Some, None, Ok, Err, ok_or, length, nat_le, nat_lt, slice_index, if◌then◌else◌, refl, ap, ◌∙◌, arith, IsUtf8, IsAscii}
use Rattle.std.specs.List.{list_all}
use Rattle.std.specs.Str.Parse.{digits_value}
use Rattle.std.specs.Str.{is_utf8}
use Rattle.std.specs.Str.Lossy.{utf8_lossy}
use Rattle.std.proofs.lemmas.Str.{is_utf8-from_IsUtf8, IsUtf8-from_is_utf8, IsUtf8-from_ascii}
use Rattle.std.proofs.lemmas.Bool.Decides.{nat_tests}
use Rattle.serde_json.specs.Data.{Data}
use Rattle.serde_json.specs.Read.{read}
use Rattle.spec_api.proofs.Truths.{both_true}
use Rattle.spec_api.specs.declared.refusals.Part.TheVariants as part
use Rattle.spec_api.specs.Moments.{is_digit}
use Rattle.spec_api.specs.Revisions.{revision_of}
use Rattle.spec_api.specs.Refusals.{bad_request}
use Rattle.spec_api.specs.Targets.{decoded, body_of}

is_not : (b : Bool) → (b ≡ true → ⊥) → b ≡ false
is_not true h = absurd (h refl)
is_not false h = refl

other : (t : List ℕ) → (IsUtf8 t → ⊥) → is_utf8 t ≡ false
other t h = is_not (is_utf8 t) (λ e. h (IsUtf8-from_is_utf8 t e))

pub decoded-text : (t : List ℕ) → IsUtf8 t → decoded t ≡ t
decoded-text t h = ap (λ v. if v then t else utf8_lossy t) (is_utf8-from_IsUtf8 t h)

pub decoded-other : (t : List ℕ) → (IsUtf8 t → ⊥) → decoded t ≡ utf8_lossy t
decoded-other t h = ap (λ v. if v then t else utf8_lossy t) (other t h)

-- a body is what its data say
pub body_of-read : (t : List ℕ) (d : Data) → IsUtf8 t → read t ≡ Some d → body_of t ≡ Ok d
body_of-read t d u h = ap (λ o. ok_or o (bad_request part.Body)) (ap (λ v. if v then read t else None) (is_utf8-from_IsUtf8 t u) ∙ h)

pub body_of-unread : (t : List ℕ) → (IsUtf8 t → read t ≡ None) → body_of t ≡ Err (bad_request part.Body)
body_of-unread t h = ap (λ o. ok_or o (bad_request part.Body)) (by (is_utf8 t) (λ e. h (IsUtf8-from_is_utf8 t e)))
  where
    by : (v : Bool) → (v ≡ true → read t ≡ None) → (if v then read t else None) ≡ None
    by true g = g refl
    by false g = refl

-- ---- revisions

digit-ascii : (x : ℕ) → is_digit x ≡ true → x < 128
digit-ascii x h =
    let m : nat_le x 57 ≡ true = (both_true (nat_le 48 x) (nat_le x 57) h).1 in
    grind (arith, nat_tests)

digits-ascii : (t : List ℕ) → list_all is_digit t ≡ true → IsAscii t
digits-ascii [] h i = omega arith
digits-ascii (x ∷ t) h zero = digit-ascii x (both_true (is_digit x) (list_all is_digit t) h).0
digits-ascii (x ∷ t) h (suc i) = digits-ascii t (both_true (is_digit x) (list_all is_digit t) h).1 i

no_revision : (a b c d : Bool) (n : ℕ) → b ≡ false → (if a && b && c && d then Some n else None) ≡ None
no_revision false b c d n e = refl
no_revision true false c d n e = refl
no_revision true true c d n e = cc

-- bytes that are no text are no revision
pub revision_of-other : (t : List ℕ) → (IsUtf8 t → ⊥) → revision_of t ≡ None
revision_of-other t h =
    no_revision (nat_lt 0 (length t)) (list_all is_digit t) ((length t == 1) || not (slice_index t 0 == 48)) (nat_lt (digits_value 10 t) 9007199254740992) (digits_value 10 t)
    (is_not (list_all is_digit t) (λ e. h (IsUtf8-from_ascii t (digits-ascii t e))))
