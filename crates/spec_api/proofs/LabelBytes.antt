-- The bytes of labels of DNS, and of the parts of a subdomain.
use Rattle.std.proofs.Common.{◌≡◌, ◌&&◌, ◌||◌, ◌==◌, ◌-◌, ℕ, List, [], ◌∷◌, Bool, true, length, nat_lt, refl, slice_index}
use Rattle.std.specs.List.{list_all, onto_first}
use Rattle.spec_api.specs.Keys.{is_letter_or_digit, is_label}
use Rattle.spec_api.proofs.Truths.{and_true, left_true, right_true}

abbrev pub is_domain_byte : ℕ → Bool
is_domain_byte b = is_letter_or_digit b || (b == 45)

abbrev pub is_dot : ℕ → Bool
is_dot b = b == 46

-- of parts the first of which begins with a byte
pub onto : (c : ℕ) (ps : List (List ℕ)) → list_all (list_all is_domain_byte) (onto_first c ps) ≡ true → (is_domain_byte c ≡ true) × (list_all (list_all is_domain_byte) ps ≡ true)
onto c [] h = (left_true (is_domain_byte c) true (left_true (is_domain_byte c && true) true h), refl)
onto c (p ∷ ps) h =
    let front = left_true (is_domain_byte c && list_all is_domain_byte p) (list_all (list_all is_domain_byte) ps) h in
    let back = right_true (is_domain_byte c && list_all is_domain_byte p) (list_all (list_all is_domain_byte) ps) h in
    (left_true (is_domain_byte c) (list_all is_domain_byte p) front, and_true (list_all is_domain_byte p) (list_all (list_all is_domain_byte) ps) (right_true (is_domain_byte c) (list_all is_domain_byte p) front) back)

pub label-bytes : (t : List ℕ) → is_label t ≡ true → list_all is_domain_byte t ≡ true
label-bytes t h =
    let long = nat_lt 0 (length t) in
    let names = list_all is_domain_byte t in
    let begins = is_letter_or_digit (slice_index t 0) in
    let ends = is_letter_or_digit (slice_index t (length t - 1)) in
    right_true long names (left_true (long && names) begins (left_true (long && names && begins) ends h))

pub labels-bytes : (ps : List (List ℕ)) → list_all is_label ps ≡ true → list_all (list_all is_domain_byte) ps ≡ true
labels-bytes [] h = refl
labels-bytes (p ∷ ps) h =
    and_true (list_all is_domain_byte p) (list_all (list_all is_domain_byte) ps) (label-bytes p (left_true (is_label p) (list_all is_label ps) h)) (labels-bytes ps (right_true (is_label p) (list_all is_label ps) h))
