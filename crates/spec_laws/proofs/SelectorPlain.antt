-- Keys and values of labels have none of the marks of a selector's text.
use Rattle.std.proofs.Common.{◌≡◌, ℕ, suc, ◌+◌, ◌<◌, List, [], ◌∷◌, ◌++◌, Bool, true, false, not, ◌&&◌, ◌||◌, ◌==◌, nat_lt, nat_le, length, reverse, take, drop, refl, arith, get_or, slice_index, ◌-◌, subst, sym, ap, ◌∙◌}
use Rattle.std.proofs.lemmas.Bool.Decides.{nat_tests}
use Rattle.std.proofs.Math.Seq.{take-append_seam, drop-append-add}
use Rattle.std.proofs.lemmas.List.{reverse-append, reverse-reverse}
use Rattle.std.proofs.lemmas.List.Folds.{list_all-append}
use Rattle.std.proofs.lemmas.List.Sums.{split_at_first, passes_at_first}
use Rattle.std.specs.List.{list_all, list_any, join_with_byte, slice_split, onto_first, before_first, after_first, position_or_len}
use Rattle.spec_api.proofs.FirstPlaces.{some-place}
use Rattle.spec_api.proofs.LabelBytes.{is_domain_byte, is_dot, label-bytes, labels-bytes, onto}
use Rattle.spec_api.proofs.Truths.{and_true, left_true, right_true}
use Rattle.spec_api.specs.Keys.{is_letter_or_digit, is_label, is_subdomain}
use Rattle.spec_api.specs.Labels.{is_name_byte, is_alphanumeric, is_short_name, is_label_value, is_label_key, is_slash}
use Rattle.spec_api.specs.SelectorTexts.{is_blank, is_comma, is_equals, is_opening, without_first_blanks, trimmed}

abbrev pub is_plain : ℕ → Bool
is_plain b = is_name_byte b || is_slash b

abbrev pub is_closing : ℕ → Bool
is_closing b = b == 41

abbrev pub is_mark : ℕ → Bool
is_mark b = b == 33

pub plain-no-blank : (b : ℕ) → is_plain b ≡ true → is_blank b ≡ false
plain-no-blank b h = grind (arith, nat_tests)

pub plain-no-comma : (b : ℕ) → is_plain b ≡ true → is_comma b ≡ false
plain-no-comma b h = grind (arith, nat_tests)

pub plain-no-equals : (b : ℕ) → is_plain b ≡ true → is_equals b ≡ false
plain-no-equals b h = grind (arith, nat_tests)

pub plain-no-opening : (b : ℕ) → is_plain b ≡ true → is_opening b ≡ false
plain-no-opening b h = grind (arith, nat_tests)

pub plain-no-closing : (b : ℕ) → is_plain b ≡ true → is_closing b ≡ false
plain-no-closing b h = grind (arith, nat_tests)

pub plain-no-mark : (b : ℕ) → is_plain b ≡ true → is_mark b ≡ false
plain-no-mark b h = grind (arith, nat_tests)

or-true : (u v : Bool) → u ≡ true → (u || v) ≡ true
or-true true v h = refl
or-true false v h = cc

or-second : (u v : Bool) → v ≡ true → (u || v) ≡ true
or-second true v h = refl
or-second false v h = h

pub none : (p : ℕ → Bool) → ((b : ℕ) → is_plain b ≡ true → p b ≡ false) → (t : List ℕ) → list_all is_plain t ≡ true → list_any p t ≡ false
none p f [] h = refl
none p f (b ∷ t) h = rw (f b (left_true (is_plain b) (list_all is_plain t) h)) (none p f t (right_true (is_plain b) (list_all is_plain t) h))

names-plain : (t : List ℕ) → list_all is_name_byte t ≡ true → list_all is_plain t ≡ true
names-plain [] h = refl
names-plain (b ∷ t) h =
    and_true (is_plain b) (list_all is_plain t) (or-true (is_name_byte b) (is_slash b) (left_true (is_name_byte b) (list_all is_name_byte t) h))
    (names-plain t (right_true (is_name_byte b) (list_all is_name_byte t) h))

short-plain : (t : List ℕ) → is_short_name t ≡ true → list_all is_plain t ≡ true
short-plain t h =
    let long = nat_lt 0 (length t) && nat_le (length t) 63 in
    let names = list_all is_name_byte t in
    let begins = is_alphanumeric (slice_index t 0) in
    let ends = is_alphanumeric (slice_index t (length t - 1)) in
    names-plain t (right_true long names (left_true (long && names) begins (left_true (long && names && begins) ends h)))

pub value-plain : (t : List ℕ) → is_label_value t ≡ true → list_all is_plain t ≡ true
value-plain [] h = refl
value-plain (b ∷ t) h = short-plain (b ∷ t) (by (length (b ∷ t) == 0) refl)
  where
    by : (v : Bool) → (length (b ∷ t) == 0) ≡ v → is_short_name (b ∷ t) ≡ true
    by true e = absurd (no-length (b ∷ t) (omega arith) e)
      where
        no-length : (t : List ℕ) → 0 < length t → (length t == 0) ≡ true → ⊥
        no-length t l e = grind (arith, nat_tests)
    by false e = rw e at h

domain-plain : (b : ℕ) → is_domain_byte b ≡ true → is_plain b ≡ true
domain-plain b h = grind (arith, nat_tests)

dot-plain : (b : ℕ) → is_dot b ≡ true → is_plain b ≡ true
dot-plain b h = grind (arith, nat_tests)

slash-plain : (b : ℕ) → is_slash b ≡ true → is_plain b ≡ true
slash-plain b h = grind (arith, nat_tests)

parts-plain : (t : List ℕ) → list_all (list_all is_domain_byte) (slice_split is_dot t) ≡ true → list_all is_plain t ≡ true
parts-plain [] h = refl
parts-plain (b ∷ t) h = by (is_dot b) (λ g. parts-plain t g) refl
  where
    by : (v : Bool) → (list_all (list_all is_domain_byte) (slice_split is_dot t) ≡ true → list_all is_plain t ≡ true) → is_dot b ≡ v → list_all is_plain (b ∷ t) ≡ true
    by true more e =
        let g : list_all (list_all is_domain_byte) (slice_split is_dot t) ≡ true = rw e at h in
        and_true (is_plain b) (list_all is_plain t) (dot-plain b e) (more g)
    by false more e =
        let g : list_all (list_all is_domain_byte) (onto_first b (slice_split is_dot t)) ≡ true = rw e at h in
        let o = onto b (slice_split is_dot t) g in
        and_true (is_plain b) (list_all is_plain t) (domain-plain b o.0) (more o.1)

bytes-plain : (t : List ℕ) → list_all is_domain_byte t ≡ true → list_all is_plain t ≡ true
bytes-plain [] h = refl
bytes-plain (b ∷ t) h =
    and_true (is_plain b) (list_all is_plain t) (domain-plain b (left_true (is_domain_byte b) (list_all is_domain_byte t) h)) (bytes-plain t (right_true (is_domain_byte b) (list_all is_domain_byte t) h))

pub label-plain : (t : List ℕ) → is_label t ≡ true → list_all is_plain t ≡ true
label-plain t h = bytes-plain t (label-bytes t h)

pub subdomain-plain : (t : List ℕ) → is_subdomain t ≡ true → list_all is_plain t ≡ true
subdomain-plain t h = parts-plain t (labels-bytes (slice_split is_dot t) (left_true (list_all is_label (slice_split is_dot t)) (nat_le (length t) 253) h))

one-more : (n : ℕ) → 1 + n ≡ suc n
one-more n = omega arith

-- a list is cut at its first element that passes
pub position : (p : ℕ → Bool) (t : List ℕ) (x : ℕ) (u : List ℕ) → list_any p t ≡ false → p x ≡ true → position_or_len p (t ++ x ∷ u) ≡ length t
position p [] x u h g = rw g refl
position p (b ∷ t) x u h g = by (p b) (λ k. position p t x u k g) refl
  where
    by : (v : Bool) → (list_any p t ≡ false → position_or_len p (t ++ x ∷ u) ≡ length t) → p b ≡ v → position_or_len p (b ∷ (t ++ x ∷ u)) ≡ length (b ∷ t)
    by true step e = let a : true ≡ false = rw e at h in cc
    by false step e = let a : list_any p t ≡ false = rw e at h in rw e (ap (λ n. 1 + n) (step a) ∙ one-more (length t))

any-here : (p : ℕ → Bool) (t : List ℕ) (x : ℕ) (u : List ℕ) → p x ≡ true → list_any p (t ++ x ∷ u) ≡ true
any-here p [] x u g = rw g refl
any-here p (b ∷ t) x u g = or-second (p b) (list_any p (t ++ x ∷ u)) (any-here p t x u g)

pub cut-at : (p : ℕ → Bool) (t : List ℕ) (x : ℕ) (u : List ℕ) → list_any p t ≡ false → p x ≡ true
    → (list_any p (t ++ x ∷ u) ≡ true) × (before_first p (t ++ x ∷ u) ≡ t) × (after_first p (t ++ x ∷ u) ≡ u)
cut-at p t x u h g =
    let e = position p t x u h g in
    (any-here p t x u g, ap (λ n. take n (t ++ x ∷ u)) e ∙ take-append_seam t (x ∷ u), ap (λ n. drop (n + 1) (t ++ x ∷ u)) e ∙ drop-append-add t (x ∷ u) 1)

pub split-nowhere : (p : ℕ → Bool) (t : List ℕ) → list_any p t ≡ false → slice_split p t ≡ t ∷ []
split-nowhere p [] h = refl
split-nowhere p (x ∷ t) h = by (p x) (λ k. split-nowhere p t k) refl
  where
    by : (v : Bool) → (list_any p t ≡ false → slice_split p t ≡ t ∷ []) → p x ≡ v → slice_split p (x ∷ t) ≡ (x ∷ t) ∷ []
    by true step e = let a : true ≡ false = rw e at h in cc
    by false step e = let a : list_any p t ≡ false = rw e at h in rw e (ap (onto_first x) (step a))

pub split-here : (p : ℕ → Bool) (t : List ℕ) (x : ℕ) (u : List ℕ) → list_any p t ≡ false → p x ≡ true → slice_split p (t ++ x ∷ u) ≡ t ∷ slice_split p u
split-here p [] x u h g = rw g refl
split-here p (b ∷ t) x u h g = by (p b) (λ k. split-here p t x u k g) refl
  where
    by : (v : Bool) → (list_any p t ≡ false → slice_split p (t ++ x ∷ u) ≡ t ∷ slice_split p u) → p b ≡ v → slice_split p (b ∷ (t ++ x ∷ u)) ≡ (b ∷ t) ∷ slice_split p u
    by true step e = let a : true ≡ false = rw e at h in cc
    by false step e = let a : list_any p t ≡ false = rw e at h in rw e (ap (onto_first b) (step a))

-- what is joined by commas is split at them
pub joined-split : (v : List ℕ) (vs : List (List ℕ)) → list_all (λ w. list_all is_plain w) (v ∷ vs) ≡ true → slice_split is_comma (join_with_byte 44 (v ∷ vs)) ≡ v ∷ vs
joined-split v [] h = split-nowhere is_comma v (none is_comma plain-no-comma v (left_true (list_all is_plain v) true h))
joined-split v (w ∷ vs) h =
    split-here is_comma v 44 (join_with_byte 44 (w ∷ vs)) (none is_comma plain-no-comma v (left_true (list_all is_plain v) (list_all (λ x. list_all is_plain x) (w ∷ vs)) h)) refl
    ∙ ap (λ x. v ∷ x) (joined-split w vs (right_true (list_all is_plain v) (list_all (λ x. list_all is_plain x) (w ∷ vs)) h))

pub key-plain : (t : List ℕ) → is_label_key t ≡ true → list_all is_plain t ≡ true
key-plain t h = by (list_any is_slash t) refl
  where
    pieces : (f b : List ℕ) → list_all is_plain f ≡ true → list_all is_plain b ≡ true → (x : ℕ) → is_slash x ≡ true → list_all is_plain (f ++ x ∷ b) ≡ true
    pieces f b hf hb x hx = list_all-append is_plain f (x ∷ b) ∙ and_true (list_all is_plain f) (list_all is_plain (x ∷ b)) hf (and_true (is_plain x) (list_all is_plain b) (slash-plain x hx) hb)

    by : (v : Bool) → list_any is_slash t ≡ v → list_all is_plain t ≡ true
    by true e =
        let g : (is_subdomain (before_first is_slash t) && is_short_name (after_first is_slash t)) ≡ true = rw e at h in
        let l = some-place is_slash t e in
        let x = get_or t (position_or_len is_slash t) 0 in
        let front = subdomain-plain (before_first is_slash t) (left_true (is_subdomain (before_first is_slash t)) (is_short_name (after_first is_slash t)) g) in
        let back = short-plain (after_first is_slash t) (right_true (is_subdomain (before_first is_slash t)) (is_short_name (after_first is_slash t)) g) in
        subst (λ z. list_all is_plain z ≡ true) (sym (split_at_first is_slash t 0 l)) (pieces (before_first is_slash t) (after_first is_slash t) front back x (passes_at_first is_slash t 0 l))
    by false e =
        let g : is_short_name t ≡ true = rw e at h in
        short-plain t g

-- ---- blanks

abbrev pub begins : List ℕ → Bool
begins [] = true
begins (b ∷ t) = not (is_blank b)

not-false : (u : Bool) → not u ≡ true → u ≡ false
not-false true h = cc
not-false false h = refl

pub no-blank-first : (t : List ℕ) → begins t ≡ true → without_first_blanks t ≡ t
no-blank-first [] h = refl
no-blank-first (b ∷ t) h = rw (not-false (is_blank b) h) refl

pub trimmed-is : (t : List ℕ) → begins t ≡ true → begins (reverse t) ≡ true → trimmed t ≡ t
trimmed-is t h k =
    ap (λ x. reverse (without_first_blanks (reverse x))) (no-blank-first t h) ∙ ap reverse (no-blank-first (reverse t) k) ∙ reverse-reverse t

not-true : (u : Bool) → u ≡ false → not u ≡ true
not-true true h = cc
not-true false h = refl

pub begins-plain : (t : List ℕ) → list_all is_plain t ≡ true → begins t ≡ true
begins-plain [] h = refl
begins-plain (b ∷ t) h = not-true (is_blank b) (plain-no-blank b (left_true (is_plain b) (list_all is_plain t) h))

reverse-plain : (t : List ℕ) → list_all is_plain t ≡ true → list_all is_plain (reverse t) ≡ true
reverse-plain [] h = refl
reverse-plain (b ∷ t) h =
    ap (list_all is_plain) (reverse-append (b ∷ []) t) ∙ list_all-append is_plain (reverse t) (b ∷ [])
    ∙ and_true (list_all is_plain (reverse t)) (is_plain b && true) (reverse-plain t (right_true (is_plain b) (list_all is_plain t) h)) (and_true (is_plain b) true (left_true (is_plain b) (list_all is_plain t) h) refl)

pub trimmed-plain : (t : List ℕ) → list_all is_plain t ≡ true → trimmed t ≡ t
trimmed-plain t h = trimmed-is t (begins-plain t h) (begins-plain (reverse t) (reverse-plain t h))

-- a text that ends with a byte that is no blank
pub ends-with : (t : List ℕ) (z : ℕ) → is_blank z ≡ false → begins (reverse (t ++ z ∷ [])) ≡ true
ends-with t z h = ap begins (reverse-append t (z ∷ [])) ∙ not-true (is_blank z) h

-- a text that ends with one that is not empty
pub ends-in : (t v : List ℕ) → list_all is_plain v ≡ true → (begins (reverse t) ≡ true) → begins (reverse (t ++ v)) ≡ true
ends-in t v h k = ap begins (reverse-append t v) ∙ by (reverse v) (begins-plain (reverse v) (reverse-plain v h))
  where
    by : (r : List ℕ) → begins r ≡ true → begins (r ++ reverse t) ≡ true
    by [] e = k
    by (b ∷ r) e = e
