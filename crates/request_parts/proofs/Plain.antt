-- Segments: bytes without a slash.
use Rattle.std.proofs.Common.{◌≡◌, ◌≢◌, ℕ, suc, ◌-◌, ◌<◌, List, [], ◌∷◌, ◌++◌, length, drop, Bool, true, false, cond, refl, sym, ap, ◌∙◌, arith, nat_eq, ◌==◌, ◌&&◌, ltb, length-append}
use Rattle.std.proofs.lemmas.Bool.Decides.{nat_tests}
use Rattle.std.proofs.Math.Seq.{drop-append_seam}
use Rattle.std.specs.List.{ends_with, slice_split, onto_first}
use Rattle.matchit.specs.Seek.{has_slash, segment, cuts, same_text}
use Rattle.request_parts.specs.Parts.{joined}

-- bytes without a slash
abbrev pub Plain : List ℕ → Type 0
Plain [] = Unit {0}
Plain (x ∷ s) = (x < 256) × (x ≢ 47) × Plain s

-- each segment has no slash
abbrev pub AllPlain : List (List ℕ) → Type 0
AllPlain [] = Unit {0}
AllPlain (s ∷ ss) = Plain s × AllPlain ss

-- what follows a segment
abbrev pub IsRest : List ℕ → Type 0
IsRest [] = Unit {0}
IsRest (x ∷ r) = x ≡ 47

pub rest-joined : (ss : List (List ℕ)) → IsRest (joined ss)
rest-joined [] = tt
rest-joined (s ∷ ss) = refl

pub ends-plain : (b : ℕ) (s : List ℕ) → Plain (b ∷ s) → ends_with nat_eq (b ∷ s) (47 ∷ []) ≡ false
ends-plain b [] p =
    let n : b ≢ 47 = p.1 in
    let e : (47 == b) ≡ false = grind (arith, nat_tests) in
    rw e refl
ends-plain b (c ∷ s) p =
    let e1 : length (b ∷ c ∷ s) - 1 ≡ suc (length s) = omega arith in
    let e2 : length (c ∷ s) - 1 ≡ length s = omega arith in
    rw e1 (rw e2 at (ends-plain c s p.2))

and-false : (v w : Bool) → w ≡ false → (v && w) ≡ false
and-false true w e = e
and-false false w e = refl

pub plain-cuts : (s : List ℕ) → Plain s → cuts s (47 ∷ []) ≡ false
plain-cuts [] p = refl
plain-cuts (b ∷ s) p = and-false (ltb 1 (length (b ∷ s))) (ends_with nat_eq (b ∷ s) (47 ∷ [])) (ends-plain b s p)

pub slash-cuts : (b : ℕ) (s : List ℕ) → cuts ((b ∷ s) ++ 47 ∷ []) (47 ∷ []) ≡ true
slash-cuts b s =
    let e : length ((b ∷ s) ++ 47 ∷ []) - 1 ≡ length (b ∷ s) = simp length-append (omega arith) in
    let l : 1 < length ((b ∷ s) ++ 47 ∷ []) = simp length-append (omega arith) in
    let long : ltb 1 (length ((b ∷ s) ++ 47 ∷ [])) ≡ true = grind (arith, nat_tests) in
    let d : drop (length ((b ∷ s) ++ 47 ∷ []) - 1) ((b ∷ s) ++ 47 ∷ []) ≡ 47 ∷ [] = ap (λ n. drop n ((b ∷ s) ++ 47 ∷ [])) e ∙ drop-append_seam (b ∷ s) (47 ∷ []) in
    let e2 : ends_with nat_eq ((b ∷ s) ++ 47 ∷ []) (47 ∷ []) ≡ true = ap (λ z. same_text (47 ∷ []) z) d in
    (λ i. long i && e2 i)

pub plain-segment : (s : List ℕ) → Plain s → segment s ≡ s
plain-segment [] p = refl
plain-segment (x ∷ s) p =
    let n : x ≢ 47 = p.1 in
    let e : (x == 47) ≡ false = grind (arith, nat_tests) in
    rw e (ap (λ z. x ∷ z) (plain-segment s p.2))

pub plain-slash : (s : List ℕ) → Plain s → has_slash s ≡ false
plain-slash [] p = refl
plain-slash (x ∷ s) p =
    let n : x ≢ 47 = p.1 in
    let e : (x == 47) ≡ false = grind (arith, nat_tests) in
    rw e (plain-slash s p.2)

pub cut-segment : (s r : List ℕ) → Plain s → segment (s ++ 47 ∷ r) ≡ s ++ 47 ∷ []
cut-segment [] r p = refl
cut-segment (x ∷ s) r p =
    let n : x ≢ 47 = p.1 in
    let e : (x == 47) ≡ false = grind (arith, nat_tests) in
    rw e (ap (λ z. x ∷ z) (cut-segment s r p.2))

pub cut-slash : (s r : List ℕ) → Plain s → has_slash (s ++ 47 ∷ r) ≡ true
cut-slash [] r p = refl
cut-slash (x ∷ s) r p =
    let n : x ≢ 47 = p.1 in
    let e : (x == 47) ≡ false = grind (arith, nat_tests) in
    rw e (cut-slash s r p.2)

-- ---- a path is its segments, joined by slashes

abbrev pub whole : List (List ℕ) → List ℕ
whole [] = []
whole (s ∷ ss) = s ++ joined ss

whole-onto : (x : ℕ) (l : List (List ℕ)) → whole (onto_first x l) ≡ x ∷ whole l
whole-onto x [] = refl
whole-onto x (s ∷ ss) = refl

abbrev pub is_cons : List (List ℕ) → Bool
is_cons [] = false
is_cons (s ∷ ss) = true

split-cons : (p : ℕ → Bool) (xs : List ℕ) → is_cons (slice_split p xs) ≡ true
split-cons p [] = refl
split-cons p (x ∷ xs) = by (p x) (slice_split p xs)
  where
    by : (v : Bool) (l : List (List ℕ)) → is_cons (cond v ([] ∷ l) (onto_first x l)) ≡ true
    by true l = refl
    by false [] = refl
    by false (s ∷ ss) = refl

joined-cons : (l : List (List ℕ)) → is_cons l ≡ true → joined l ≡ 47 ∷ whole l
joined-cons [] e = cc
joined-cons (s ∷ ss) e = refl

pub whole-split : (xs : List ℕ) → whole (slice_split (λ b. b == 47) xs) ≡ xs
whole-split [] = refl
whole-split (x ∷ xs) = by (x == 47) refl (whole-split xs)
  where
    by : (v : Bool) → (x == 47) ≡ v → whole (slice_split (λ b. b == 47) xs) ≡ xs → whole (cond v ([] ∷ slice_split (λ b. b == 47) xs) (onto_first x (slice_split (λ b. b == 47) xs))) ≡ x ∷ xs
    by true e ih =
        let q : x ≡ 47 = grind (arith, nat_tests) in
        joined-cons (slice_split (λ b. b == 47) xs) (split-cons (λ b. b == 47) xs) ∙ (λ i. sym q i ∷ ih i)
    by false e ih = whole-onto x (slice_split (λ b. b == 47) xs) ∙ ap (λ z. x ∷ z) ih

AllPlain-onto : (x : ℕ) (l : List (List ℕ)) → x < 256 → x ≢ 47 → AllPlain l → AllPlain (onto_first x l)
AllPlain-onto x [] l n p = ((l, n, tt), tt)
AllPlain-onto x (s ∷ ss) l n p = ((l, n, p.0), p.1)

-- bytes
abbrev pub AreBytes : List ℕ → Type 0
AreBytes [] = Unit {0}
AreBytes (x ∷ s) = (x < 256) × AreBytes s

pub plain-split : (xs : List ℕ) → AreBytes xs → AllPlain (slice_split (λ b. b == 47) xs)
plain-split [] f = (tt, tt)
plain-split (x ∷ xs) f = by (x == 47) refl (plain-split xs f.1)
  where
    by : (v : Bool) → (x == 47) ≡ v → AllPlain (slice_split (λ b. b == 47) xs) → AllPlain (cond v ([] ∷ slice_split (λ b. b == 47) xs) (onto_first x (slice_split (λ b. b == 47) xs)))
    by true e ih = (tt, ih)
    by false e ih =
        let n : x ≢ 47 = λ q. grind (arith, nat_tests) in
        AllPlain-onto x (slice_split (λ b. b == 47) xs) f.0 n ih
