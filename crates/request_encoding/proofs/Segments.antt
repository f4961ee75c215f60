-- Texts between slashes, and a path with no query.
use Rattle.std.proofs.Common.{◌≡◌, ℕ, suc, ◌+◌, List, [], ◌∷◌, ◌++◌, Bool, true, false, not, ◌&&◌, ◌||◌, ◌==◌, nat_lt, nat_le, length, take, drop, slice_index, ◌-◌, refl, ap, ◌∙◌, arith}
use Rattle.std.proofs.lemmas.Bool.Decides.{nat_tests}
use Rattle.std.specs.List.{list_all, onto_first, prefix_len}
use Rattle.spec_api.proofs.Truths.{and_true, both_true, left_true, right_true}
use Rattle.spec_api.specs.Keys.{is_letter_or_digit, is_label, is_namespace}
use Rattle.spec_api.specs.Targets.{segments, is_filled, path_of}
use Rattle.spec_api.specs.Queries.{query_of}
use Rattle.request_encoding.specs.Texts.{is_visible, is_of_path, is_of_segment}

no_slash : (b : ℕ) → is_of_segment b ≡ true → (b == 47) ≡ false
no_slash b h = grind (arith, nat_tests)

-- what stands before a slash is the first segment
pub first_segment : (s rest : List ℕ) → list_all is_of_segment s ≡ true → segments (s ++ 47 ∷ rest) ≡ s ∷ segments rest
first_segment [] rest h = refl
first_segment (b ∷ s) rest h =
    let parts = both_true (is_of_segment b) (list_all is_of_segment s) h in
    rw (no_slash b parts.0) (ap (onto_first b) (first_segment s rest parts.1))

-- what has no slash is one segment
pub last_segment : (s : List ℕ) → list_all is_of_segment s ≡ true → segments s ≡ s ∷ []
last_segment [] h = refl
last_segment (b ∷ s) h =
    let parts = both_true (is_of_segment b) (list_all is_of_segment s) h in
    rw (no_slash b parts.0) (ap (onto_first b) (last_segment s parts.1))

-- ---- a path with no `?`

abbrev pub is_path : List ℕ → Bool
is_path t = list_all is_of_path t

before_none : (t : List ℕ) → is_path t ≡ true → prefix_len (λ b. not (b == 63)) t ≡ length t
before_none [] h = refl
before_none (b ∷ t) h =
    let parts = both_true (is_of_path b) (is_path t) h in
    rw (right_true (is_visible b) (not (b == 63)) parts.0) (omega (arith, before_none t parts.1))

take_all : (t : List ℕ) → take (length t) t ≡ t
take_all [] = refl
take_all (b ∷ t) = ap (λ z. b ∷ z) (take_all t)

drop_more : (t : List ℕ) → drop (length t + 1) t ≡ []
drop_more [] = refl
drop_more (b ∷ t) =
    let more : length (b ∷ t) + 1 ≡ suc (length t + 1) = omega arith in ap (λ n. drop n (b ∷ t)) more ∙ drop_more t

pub whole_path : (t : List ℕ) → is_path t ≡ true → path_of t ≡ t
whole_path t h = ap (λ n. take n t) (before_none t h) ∙ take_all t

pub no_query : (t : List ℕ) → is_path t ≡ true → query_of t ≡ []
no_query t h = ap (λ n. drop (n + 1) t) (before_none t h) ∙ drop_more t

pub segment_is_path : (s : List ℕ) → list_all is_of_segment s ≡ true → is_path s ≡ true
segment_is_path [] h = refl
segment_is_path (b ∷ s) h =
    let parts = both_true (is_of_segment b) (list_all is_of_segment s) h in
    and_true (is_of_path b) (is_path s) (left_true (is_of_path b) (not (b == 47)) parts.0) (segment_is_path s parts.1)

-- both have none
pub joined_are_path : (s t : List ℕ) → is_path s ≡ true → is_path t ≡ true → is_path (s ++ t) ≡ true
joined_are_path [] t h k = k
joined_are_path (b ∷ s) t h k =
    let parts = both_true (is_of_path b) (is_path s) h in and_true (is_of_path b) (is_path (s ++ t)) parts.0 (joined_are_path s t parts.1 k)

-- ---- namespaces

abbrev pub is_domain_byte : ℕ → Bool
is_domain_byte b = is_letter_or_digit b || (b == 45)

pub domain_of_segment : (b : ℕ) → is_domain_byte b ≡ true → is_of_segment b ≡ true
domain_of_segment b h = grind (arith, nat_tests)

all_of_segment : (t : List ℕ) → list_all is_domain_byte t ≡ true → list_all is_of_segment t ≡ true
all_of_segment [] h = refl
all_of_segment (b ∷ t) h =
    let parts = both_true (is_domain_byte b) (list_all is_domain_byte t) h in
    and_true (is_of_segment b) (list_all is_of_segment t) (domain_of_segment b parts.0) (all_of_segment t parts.1)

-- a namespace can be a segment
pub namespace_segment : (t : List ℕ) → is_namespace t ≡ true → (is_filled t ≡ true) × (list_all is_of_segment t ≡ true)
namespace_segment t h =
    let long = nat_lt 0 (length t) in
    let names = list_all is_domain_byte t in
    let begins = is_letter_or_digit (slice_index t 0) in
    let ends = is_letter_or_digit (slice_index t (length t - 1)) in
    let label : is_label t ≡ true = left_true (is_label t) (nat_le (length t) 63) h in
    let front = both_true long names (left_true (long && names) begins (left_true (long && names && begins) ends label)) in
    (front.0, all_of_segment t front.1)
