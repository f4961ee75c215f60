-- What a text of a form has at its places.
use Rattle.std.proofs.Common.{◌≡◌, ℕ, zero, suc, ◌+◌, ◌-◌, ◌*◌, ◌<◌, ◌≤◌, ◌^◌, List, [], ◌∷◌, length, take, drop, true, ◌&&◌, ◌==◌, nat_le, refl, sym, ap, arith, codes, add-one, drop-cons, get_or, nat_lt, IsAscii, lit≤}
use Rattle.std.proofs.Math.Nat.{pow-suc}
use Rattle.std.proofs.lemmas.Bool.Decides.{nat_tests}
use Rattle.std.specs.Char.{digit_value}
use Rattle.std.specs.List.{list_all}
use Rattle.std.specs.Str.Parse.{digits_value_after}
use Rattle.spec_api.proofs.Truths.{both_true}
use Rattle.spec_api.specs.Moments.{is_digit, has_form, part, is_day, is_moment}
use Rattle.metadata_values.specs.Forms.{fits}

-- a byte that fits an ASCII mark is ASCII
fits-ascii : (f b : ℕ) → nat_lt f 128 ≡ true → fits f b ≡ true → b < 128
fits-ascii f b a h = grind (arith, nat_tests)

-- a text of a form is as long as the form
pub has_form-length : (fs bs : List ℕ) → has_form fs bs ≡ true → length bs ≡ length fs
has_form-length [] [] h = refl
has_form-length [] (b ∷ bs) h = cc
has_form-length (f ∷ fs) [] h = cc
has_form-length (f ∷ fs) (b ∷ bs) h = ap suc (has_form-length fs bs (both_true (fits f b) (has_form fs bs) h).1)

-- where the form is all digits, so is the text
has_form-digits : (fs bs : List ℕ) → has_form fs bs ≡ true → list_all (λ f. f == 48) fs ≡ true → list_all is_digit bs ≡ true
has_form-digits [] [] h d = refl
has_form-digits [] (b ∷ bs) h d = cc
has_form-digits (f ∷ fs) [] h d = cc
has_form-digits (f ∷ fs) (b ∷ bs) h d =
    let p = both_true (fits f b) (has_form fs bs) h in
    let q = both_true (f == 48) (list_all (λ f. f == 48) fs) d in
    let first : is_digit b ≡ true = rw q.0 at p.0 in
    rw (first, has_form-digits fs bs p.1 q.1) refl

-- a beginning of a text has a beginning of the form
has_form-take : (n : ℕ) (fs bs : List ℕ) → has_form fs bs ≡ true → has_form (take n fs) (take n bs) ≡ true
has_form-take zero fs bs h = refl
has_form-take (suc n) [] [] h = refl
has_form-take (suc n) [] (b ∷ bs) h = cc
has_form-take (suc n) (f ∷ fs) [] h = cc
has_form-take (suc n) (f ∷ fs) (b ∷ bs) h =
    let p = both_true (fits f b) (has_form fs bs) h in
    rw (p.0, has_form-take n fs bs p.1) refl

-- an end of a text has an end of the form
has_form-drop : (k : ℕ) (fs bs : List ℕ) → has_form fs bs ≡ true → has_form (drop k fs) (drop k bs) ≡ true
has_form-drop zero fs bs h = h
has_form-drop (suc k) [] [] h = refl
has_form-drop (suc k) [] (b ∷ bs) h = cc
has_form-drop (suc k) (f ∷ fs) [] h = cc
has_form-drop (suc k) (f ∷ fs) (b ∷ bs) h = has_form-drop k fs bs (both_true (fits f b) (has_form fs bs) h).1

-- where the form has digits, the text has them
pub digits-at : (n k : ℕ) (fs bs : List ℕ) → list_all (λ f. f == 48) (take n (drop k fs)) ≡ true → has_form fs bs ≡ true
    → list_all is_digit (take n (drop k bs)) ≡ true
digits-at n k fs bs d h = has_form-digits (take n (drop k fs)) (take n (drop k bs)) (has_form-take n (drop k fs) (drop k bs) (has_form-drop k fs bs h)) d

-- a moment has the form of moments
pub moment-form : (t : List ℕ) → is_moment t ≡ true → has_form (codes "0000-00-00T00:00:00Z") t ≡ true
moment-form t h =
    let form = has_form (codes "0000-00-00T00:00:00Z") t in
    let day = is_day (part 0 4 t) (part 5 2 t) (part 8 2 t) in
    let a = both_true (form && day && nat_le (part 11 2 t) 23 && nat_le (part 14 2 t) 59) (nat_le (part 17 2 t) 59) h in
    let b = both_true (form && day && nat_le (part 11 2 t) 23) (nat_le (part 14 2 t) 59) a.0 in
    let d = both_true (form && day) (nat_le (part 11 2 t) 23) b.0 in
    (both_true form day d.0).0

-- where the form is ASCII, so is the text
pub has_form-ascii : (fs bs : List ℕ) → list_all (λ f. nat_lt f 128) fs ≡ true → has_form fs bs ≡ true → IsAscii bs
has_form-ascii [] [] a h i = omega arith
has_form-ascii [] (b ∷ bs) a h i = cc
has_form-ascii (f ∷ fs) [] a h i = cc
has_form-ascii (f ∷ fs) (b ∷ bs) a h zero =
    let p = both_true (fits f b) (has_form fs bs) h in
    let q = both_true (nat_lt f 128) (list_all (λ f. nat_lt f 128) fs) a in
    fits-ascii f b q.0 p.0
has_form-ascii (f ∷ fs) (b ∷ bs) a h (suc i) =
    has_form-ascii fs bs (both_true (nat_lt f 128) (list_all (λ f. nat_lt f 128) fs) a).1 (both_true (fits f b) (has_form fs bs) h).1 i

-- a digit's value is below ten
pub digit-value : (ds : List ℕ) (i : ℕ) → list_all is_digit ds ≡ true → i < length ds → (48 ≤ get_or ds i 0) × (get_or ds i 0 ≤ 57)
digit-value [] i h l = absurd (omega arith)
digit-value (d ∷ ds) zero h l =
    let p = both_true (nat_le 48 d) (nat_le d 57) (both_true (is_digit d) (list_all is_digit ds) h).0 in
    let x : nat_le 48 d ≡ true = p.0 in
    let y : nat_le d 57 ≡ true = p.1 in
    (grind (arith, nat_tests), grind (arith, nat_tests))
digit-value (d ∷ ds) (suc i) h l = digit-value ds i (both_true (is_digit d) (list_all is_digit ds) h).1 (omega arith)

-- what a digit says
value-is : (x : ℕ) → 48 ≤ x → x ≤ 57 → digit_value x ≡ x - 48
value-is x low high = grind (arith, nat_tests)

-- one digit more
pub value-drop : (n i : ℕ) (ds : List ℕ) → i < length ds → (48 ≤ get_or ds i 0) × (get_or ds i 0 ≤ 57)
    → digits_value_after 10 n (drop i ds) ≡ digits_value_after 10 (n * 10 + (get_or ds i 0 - 48)) (drop (i + 1) ds)
value-drop n i ds h digit =
    let is : digit_value (get_or ds i 0) ≡ get_or ds i 0 - 48 = value-is (get_or ds i 0) digit.0 digit.1 in
    rw (add-one, drop-cons ds i 0, sym is) refl

-- one power more
pub power-more : (i : ℕ) → 10 ^ (i + 1) ≡ 10 ^ i * 10
power-more i = rw add-one (pow-suc 10 i)

-- three digits are below a thousand
pub power-small : (i : ℕ) → i ≤ 3 → 10 ^ i ≤ 1000
power-small zero h = lit≤ tt
power-small (suc zero) h = lit≤ tt
power-small (suc (suc zero)) h = lit≤ tt
power-small (suc (suc (suc zero))) h = lit≤ tt
power-small (suc (suc (suc (suc i)))) h = absurd (omega arith)
