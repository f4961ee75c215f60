-- Names as they have to be can be segments of a path.
use Rattle.std.proofs.Common.{◌≡◌, ℕ, List, [], ◌∷◌, Bool, true, false, ◌&&◌, ◌==◌, nat_lt, nat_le, length, slice_index, ◌-◌, refl, arith}
use Rattle.std.proofs.lemmas.Bool.Decides.{nat_tests}
use Rattle.std.specs.List.{list_all, slice_split, onto_first}
use Rattle.spec_api.proofs.Truths.{and_true, both_true, left_true, right_true}
use Rattle.spec_api.specs.Keys.{is_letter_or_digit, is_label, is_namespace, is_subdomain}
use Rattle.spec_api.specs.Targets.{is_filled}
use Rattle.request_encoding.specs.Texts.{is_of_segment, is_segment}
use Rattle.request_encoding.specs.Laws.{StoredKeysAreAddresses}
use Rattle.request_encoding.proofs.Segments.{is_domain_byte, domain_of_segment}

abbrev is_dot : ℕ → Bool
is_dot b = b == 46

dot_of_segment : (b : ℕ) → is_dot b ≡ true → is_of_segment b ≡ true
dot_of_segment b h = grind (arith, nat_tests)

abbrev are_domain : List ℕ → Bool
are_domain t = list_all is_domain_byte t

onto : (b : ℕ) (ps : List (List ℕ)) → list_all are_domain (onto_first b ps) ≡ true → (is_domain_byte b ≡ true) × (list_all are_domain ps ≡ true)
onto b [] h = (left_true (is_domain_byte b) true (left_true (is_domain_byte b && true) true h), refl)
onto b (p ∷ ps) h =
    let parts = both_true (is_domain_byte b && are_domain p) (list_all are_domain ps) h in
    let front = both_true (is_domain_byte b) (are_domain p) parts.0 in (front.0, and_true (are_domain p) (list_all are_domain ps) front.1 parts.1)

-- what has only such bytes between its dots
between_dots : (t : List ℕ) → list_all are_domain (slice_split is_dot t) ≡ true → list_all is_of_segment t ≡ true
between_dots [] h = refl
between_dots (b ∷ t) h = by (is_dot b) (λ g. between_dots t g) refl
  where
    by : (v : Bool) → (list_all are_domain (slice_split is_dot t) ≡ true → list_all is_of_segment t ≡ true) → is_dot b ≡ v → list_all is_of_segment (b ∷ t) ≡ true
    by true more e =
        let g : list_all are_domain (slice_split is_dot t) ≡ true = rw e at h in and_true (is_of_segment b) (list_all is_of_segment t) (dot_of_segment b e) (more g)
    by false more e =
        let g : list_all are_domain (onto_first b (slice_split is_dot t)) ≡ true = rw e at h in
        let o = onto b (slice_split is_dot t) g in and_true (is_of_segment b) (list_all is_of_segment t) (domain_of_segment b o.0) (more o.1)

label_bytes : (t : List ℕ) → is_label t ≡ true → are_domain t ≡ true
label_bytes t h =
    let long = nat_lt 0 (length t) in
    let names = are_domain t in
    let begins = is_letter_or_digit (slice_index t 0) in
    let ends = is_letter_or_digit (slice_index t (length t - 1)) in
    right_true long names (left_true (long && names) begins (left_true (long && names && begins) ends h))

labels_bytes : (ps : List (List ℕ)) → list_all is_label ps ≡ true → list_all are_domain ps ≡ true
labels_bytes [] h = refl
labels_bytes (p ∷ ps) h =
    let parts = both_true (is_label p) (list_all is_label ps) h in
    and_true (are_domain p) (list_all are_domain ps) (label_bytes p parts.0) (labels_bytes ps parts.1)

some_byte : (b : ℕ) (t : List ℕ) → is_filled (b ∷ t) ≡ true
some_byte b t = grind (arith, nat_tests)

filled : (t : List ℕ) → is_subdomain t ≡ true → is_filled t ≡ true
filled [] h = cc
filled (b ∷ t) h = some_byte b t

name_segment : (t : List ℕ) → is_subdomain t ≡ true → is_segment t ≡ true
name_segment t h =
    let labels = left_true (list_all is_label (slice_split is_dot t)) (nat_le (length t) 253) h in
    and_true (is_filled t) (list_all is_of_segment t) (filled t h) (between_dots t (labels_bytes (slice_split is_dot t) labels))

pub addresses : StoredKeysAreAddresses
addresses k namespace name = and_true (is_namespace k.namespace) (is_segment k.name) namespace (name_segment k.name name)
