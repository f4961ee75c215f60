-- Keys and values of labels are ASCII, so they are text.
use Rattle.std.proofs.Common.{◌≡◌, ℕ, ◌<◌, List, [], ◌∷◌, Bool, true, false, ◌&&◌, ◌||◌, ◌==◌, nat_lt, nat_le, length, refl, arith, get_or, slice_index, ◌-◌, subst, sym, None}
use Rattle.std.proofs.lemmas.Bool.Decides.{nat_tests}
use Rattle.std.proofs.lemmas.Str.{IsUtf8-from_ascii, IsUtf8-append, IsUtf8-nil}
use Rattle.std.proofs.lemmas.Str.Ascii.{IsAscii-nil, IsAscii-cons}
use Rattle.std.proofs.lemmas.List.Sums.{split_at_first, passes_at_first}
use Rattle.std.specs.List.{list_all, list_any, slice_split, onto_first, before_first, after_first, position_or_len}
use Rattle.std.specs.Str.{IsAscii, IsUtf8}
use Rattle.spec_api.proofs.FirstPlaces.{some-place}
use Rattle.spec_api.proofs.LabelBytes.{is_domain_byte, is_dot, labels-bytes, onto}
use Rattle.spec_api.proofs.Truths.{and_true, left_true, right_true}
use Rattle.spec_api.specs.Keys.{is_letter_or_digit, is_label, is_subdomain}
use Rattle.spec_api.specs.Labels.{is_name_byte, is_alphanumeric, is_short_name, is_label_value, is_label_key, is_slash}
use Rattle.spec_api.specs.Selectors.{label_key, label_value}

name-small : (b : ℕ) → is_name_byte b ≡ true → b < 128
name-small b h = grind (arith, nat_tests)

domain-small : (b : ℕ) → (is_letter_or_digit b || (b == 45)) ≡ true → b < 128
domain-small b h = grind (arith, nat_tests)

slash-small : (b : ℕ) → is_slash b ≡ true → b < 128
slash-small b h = grind (arith, nat_tests)

no-length : (t : List ℕ) → 0 < length t → (length t == 0) ≡ true → ⊥
no-length t l e = grind (arith, nat_tests)

names-ascii : (t : List ℕ) → list_all is_name_byte t ≡ true → IsAscii t
names-ascii [] h = IsAscii-nil
names-ascii (b ∷ t) h = IsAscii-cons b t (name-small b (left_true (is_name_byte b) (list_all is_name_byte t) h)) (names-ascii t (right_true (is_name_byte b) (list_all is_name_byte t) h))

short-ascii : (t : List ℕ) → is_short_name t ≡ true → IsAscii t
short-ascii t h =
    let long = nat_lt 0 (length t) && nat_le (length t) 63 in
    let names = list_all is_name_byte t in
    let begins = is_alphanumeric (slice_index t 0) in
    let ends = is_alphanumeric (slice_index t (length t - 1)) in
    names-ascii t (right_true long names (left_true (long && names) begins (left_true (long && names && begins) ends h)))

parts-ascii : (t : List ℕ) → list_all (list_all is_domain_byte) (slice_split is_dot t) ≡ true → IsAscii t
parts-ascii [] h = IsAscii-nil
parts-ascii (b ∷ t) h = by (is_dot b) (λ g. parts-ascii t g) refl
  where
    by : (v : Bool) → (list_all (list_all is_domain_byte) (slice_split is_dot t) ≡ true → IsAscii t) → is_dot b ≡ v → IsAscii (b ∷ t)
    by true more e =
        let g : list_all (list_all is_domain_byte) (slice_split is_dot t) ≡ true = rw e at h in
        let small : b < 128 = grind (arith, nat_tests) in
        IsAscii-cons b t small (more g)
    by false more e =
        let g : list_all (list_all is_domain_byte) (onto_first b (slice_split is_dot t)) ≡ true = rw e at h in
        let o = onto b (slice_split is_dot t) g in
        IsAscii-cons b t (domain-small b o.0) (more o.1)

subdomain-ascii : (t : List ℕ) → is_subdomain t ≡ true → IsAscii t
subdomain-ascii t h = parts-ascii t (labels-bytes (slice_split is_dot t) (left_true (list_all is_label (slice_split is_dot t)) (nat_le (length t) 253) h))

key-ascii : (t : List ℕ) → is_label_key t ≡ true → IsUtf8 t
key-ascii t h = by (list_any is_slash t) refl
  where
    by : (v : Bool) → list_any is_slash t ≡ v → IsUtf8 t
    by true e =
        let g : (is_subdomain (before_first is_slash t) && is_short_name (after_first is_slash t)) ≡ true = rw e at h in
        let l = some-place is_slash t e in
        let x = get_or t (position_or_len is_slash t) 0 in
        let passes : is_slash x ≡ true = passes_at_first is_slash t 0 l in
        let small : x < 128 = slash-small x passes in
        let front = IsUtf8-from_ascii (before_first is_slash t) (subdomain-ascii (before_first is_slash t) (left_true (is_subdomain (before_first is_slash t)) (is_short_name (after_first is_slash t)) g)) in
        let back = short-ascii (after_first is_slash t) (right_true (is_subdomain (before_first is_slash t)) (is_short_name (after_first is_slash t)) g) in
        subst IsUtf8 (sym (split_at_first is_slash t 0 l)) (IsUtf8-append (before_first is_slash t) (x ∷ after_first is_slash t) front (IsUtf8-from_ascii (x ∷ after_first is_slash t) (IsAscii-cons x (after_first is_slash t) small back)))
    by false e =
        let g : is_short_name t ≡ true = rw e at h in
        IsUtf8-from_ascii t (short-ascii t g)

value-ascii : (t : List ℕ) → is_label_value t ≡ true → IsUtf8 t
value-ascii [] h = IsUtf8-nil
value-ascii (b ∷ t) h = IsUtf8-from_ascii (b ∷ t) (short-ascii (b ∷ t) (by (length (b ∷ t) == 0) refl))
  where
    by : (v : Bool) → (length (b ∷ t) == 0) ≡ v → is_short_name (b ∷ t) ≡ true
    by true e = absurd (no-length (b ∷ t) (omega arith) e)
    by false e = rw e at h

-- what is no text is no key
pub no-key : (t : List ℕ) → (IsUtf8 t → ⊥) → label_key t ≡ None
no-key t n = by (is_label_key t) refl
  where
    by : (v : Bool) → is_label_key t ≡ v → label_key t ≡ None
    by true e = absurd (n (key-ascii t e))
    by false e = rw e refl

-- and no value
pub no-value : (t : List ℕ) → (IsUtf8 t → ⊥) → label_value t ≡ None
no-value t n = by (is_label_value t) refl
  where
    by : (v : Bool) → is_label_value t ≡ v → label_value t ≡ None
    by true e = absurd (n (value-ascii t e))
    by false e = rw e refl
