-- Blanks around the parts of a selector's text.
use Rattle.std.proofs.Common.{◌≡◌, cond, ℕ, zero, suc, ◌<◌, List, [], ◌∷◌, ◌++◌, Bool, true, false, ◌||◌, length, reverse, get_or, refl, sym, subst, ap, ap₂, ◌∙◌, arith, append_assoc, append-nil}
use Rattle.std.proofs.lemmas.Bool.Decides.{nat_tests}
use Rattle.std.proofs.lemmas.List.{length-reverse, reverse-append, reverse-reverse}
use Rattle.std.proofs.lemmas.List.Folds.{list_all-append}
use Rattle.std.specs.List.{list_all, list_any}
use Rattle.spec_laws.specs.SelectorGrammar.{AreBlanks}
use Rattle.spec_api.proofs.Truths.{and_true, left_true, right_true}
use Rattle.spec_api.specs.SelectorTexts.{is_blank, is_comma, is_equals, is_opening, without_first_blanks, trimmed}
use Rattle.spec_laws.proofs.SelectorPlain.{is_plain, is_closing, is_mark, begins, begins-plain, no-blank-first, ends-in}

-- ---- bytes

-- those of keys, values and words, and blanks
abbrev pub is_soft : ℕ → Bool
is_soft b = is_plain b || is_blank b

pub plain-soft : (b : ℕ) → is_plain b ≡ true → is_soft b ≡ true
plain-soft b h = rw h refl

pub blank-soft : (b : ℕ) → is_blank b ≡ true → is_soft b ≡ true
blank-soft b h = by (is_plain b)
  where
    by : (c : Bool) → (c || is_blank b) ≡ true
    by true = refl
    by false = h

pub soft-no-comma : (b : ℕ) → is_soft b ≡ true → is_comma b ≡ false
soft-no-comma b h = grind (arith, nat_tests)

pub soft-no-equals : (b : ℕ) → is_soft b ≡ true → is_equals b ≡ false
soft-no-equals b h = grind (arith, nat_tests)

pub soft-no-opening : (b : ℕ) → is_soft b ≡ true → is_opening b ≡ false
soft-no-opening b h = grind (arith, nat_tests)

pub soft-no-closing : (b : ℕ) → is_soft b ≡ true → is_closing b ≡ false
soft-no-closing b h = grind (arith, nat_tests)

pub soft-no-mark : (b : ℕ) → is_soft b ≡ true → is_mark b ≡ false
soft-no-mark b h = grind (arith, nat_tests)

-- ---- tests of all bytes

pub all-append : (p : ℕ → Bool) (t u : List ℕ) → list_all p t ≡ true → list_all p u ≡ true → list_all p (t ++ u) ≡ true
all-append p t u h g = list_all-append p t u ∙ and_true (list_all p t) (list_all p u) h g

pub all-weaker : (p q : ℕ → Bool) → ((b : ℕ) → p b ≡ true → q b ≡ true) → (t : List ℕ) → list_all p t ≡ true → list_all q t ≡ true
all-weaker p q f [] h = refl
all-weaker p q f (b ∷ t) h = and_true (q b) (list_all q t) (f b (left_true (p b) (list_all p t) h)) (all-weaker p q f t (right_true (p b) (list_all p t) h))

pub all-none : (p q : ℕ → Bool) → ((b : ℕ) → p b ≡ true → q b ≡ false) → (t : List ℕ) → list_all p t ≡ true → list_any q t ≡ false
all-none p q f [] h = refl
all-none p q f (b ∷ t) h = ap₂ (λ x y. x || y) (f b (left_true (p b) (list_all p t) h)) (all-none p q f t (right_true (p b) (list_all p t) h))

pub all-reverse : (p : ℕ → Bool) (t : List ℕ) → list_all p t ≡ true → list_all p (reverse t) ≡ true
all-reverse p [] h = refl
all-reverse p (b ∷ t) h =
    ap (list_all p) (reverse-append (b ∷ []) t)
    ∙ all-append p (reverse t) (b ∷ []) (all-reverse p t (right_true (p b) (list_all p t) h)) (and_true (p b) true (left_true (p b) (list_all p t) h) refl)

pub all-at : (p : ℕ → Bool) (t : List ℕ) (i : ℕ) → i < length t → list_all p t ≡ true → p (get_or t i 0) ≡ true
all-at p [] i l h = absurd (omega (arith, l))
all-at p (b ∷ t) zero l h = left_true (p b) (list_all p t) h
all-at p (b ∷ t) (suc i) l h = all-at p t i (omega (arith, l)) (right_true (p b) (list_all p t) h)

pub soft-plain : (t : List ℕ) → list_all is_plain t ≡ true → list_all is_soft t ≡ true
soft-plain = all-weaker is_plain is_soft plain-soft

pub soft-blanks : (t : List ℕ) → AreBlanks t → list_all is_soft t ≡ true
soft-blanks = all-weaker is_blank is_soft blank-soft

-- ---- blanks that go

pub first-blanks : (a t : List ℕ) → AreBlanks a → without_first_blanks (a ++ t) ≡ without_first_blanks t
first-blanks [] t h = refl
first-blanks (b ∷ a) t h = rw (left_true (is_blank b) (list_all is_blank a) h) (first-blanks a t (right_true (is_blank b) (list_all is_blank a) h))

pub only-blanks : (a : List ℕ) → AreBlanks a → without_first_blanks a ≡ []
only-blanks a h = ap without_first_blanks (sym (append-nil a)) ∙ first-blanks a [] h

-- a text without its last blanks
abbrev pub shortened : List ℕ → List ℕ
shortened t = reverse (without_first_blanks (reverse t))

pub shortened-blanks : (z : List ℕ) → AreBlanks z → shortened z ≡ []
shortened-blanks z h = ap reverse (only-blanks (reverse z) (all-reverse is_blank z h))

last-blanks : (t z : List ℕ) → AreBlanks z → shortened (t ++ z) ≡ shortened t
last-blanks t z h = ap (λ x. reverse (without_first_blanks x)) (reverse-append t z) ∙ ap reverse (first-blanks (reverse z) (reverse t) (all-reverse is_blank z h))

first-over : (s w : List ℕ) → begins w ≡ true → without_first_blanks (s ++ w) ≡ without_first_blanks s ++ w
first-over [] w h = no-blank-first w h
first-over (b ∷ s) w h = by (is_blank b) refl (first-over s w h)
  where
    by : (c : Bool) → is_blank b ≡ c → without_first_blanks (s ++ w) ≡ without_first_blanks s ++ w → without_first_blanks (b ∷ (s ++ w)) ≡ without_first_blanks (b ∷ s) ++ w
    by true e later = rw e later
    by false e later = rw e refl

shortened-over : (u y : List ℕ) → begins (reverse u) ≡ true → shortened (u ++ y) ≡ u ++ shortened y
shortened-over u y h =
    ap (λ x. reverse (without_first_blanks x)) (reverse-append u y) ∙ ap reverse (first-over (reverse y) (reverse u) h)
    ∙ reverse-append (without_first_blanks (reverse y)) (reverse u) ∙ ap (λ x. x ++ shortened y) (reverse-reverse u)

-- what begins and ends with no blank stays, and what follows it is shortened
pub trimmed-over : (a u y : List ℕ) → AreBlanks a → begins (u ++ y) ≡ true → begins (reverse u) ≡ true → trimmed (a ++ (u ++ y)) ≡ u ++ shortened y
trimmed-over a u y h g k = ap shortened (first-blanks a (u ++ y) h ∙ no-blank-first (u ++ y) g) ∙ shortened-over u y k

pub trimmed-around : (a u z : List ℕ) → AreBlanks a → AreBlanks z → begins (u ++ z) ≡ true → begins (reverse u) ≡ true → trimmed (a ++ (u ++ z)) ≡ u
trimmed-around a u z h g b e = trimmed-over a u z h b e ∙ ap (λ x. u ++ x) (shortened-blanks z g) ∙ append-nil u

begins-back : (t : List ℕ) → list_all is_plain t ≡ true → begins (reverse t) ≡ true
begins-back t h = ends-in [] t h refl

pub trimmed-plain-around : (a v z : List ℕ) → AreBlanks a → AreBlanks z → list_all is_plain v ≡ true → trimmed (a ++ (v ++ z)) ≡ v
trimmed-plain-around a [] z h g p = ap shortened (first-blanks a z h ∙ only-blanks z g)
trimmed-plain-around a (b ∷ v) z h g p = trimmed-around a (b ∷ v) z h g (begins-plain (b ∷ v) p) (begins-back (b ∷ v) p)

pub trimmed-plain-after : (a v : List ℕ) → AreBlanks a → list_all is_plain v ≡ true → trimmed (a ++ v) ≡ v
trimmed-plain-after a v h p = ap (λ x. trimmed (a ++ x)) (sym (append-nil v)) ∙ trimmed-plain-around a v [] h refl p

pub trimmed-plain-before : (v z : List ℕ) → AreBlanks z → list_all is_plain v ≡ true → trimmed (v ++ z) ≡ v
trimmed-plain-before v z h p = trimmed-plain-around [] v z refl h p

some-first : (r s : List ℕ) → begins r ≡ true → 0 < length r → begins (r ++ s) ≡ true
some-first [] s h l = absurd (omega (arith, l))
some-first (b ∷ r) s h l = h

some-back : (b : ℕ) (v : List ℕ) → 0 < length (reverse (b ∷ v))
some-back b v = let n : length (reverse (b ∷ v)) ≡ length (b ∷ v) = length-reverse (b ∷ v) in omega (arith, n)

pub ends-plain : (a : List ℕ) (b : ℕ) (v : List ℕ) → list_all is_plain (b ∷ v) ≡ true → begins (reverse (a ++ b ∷ v)) ≡ true
ends-plain a b v p = ap begins (reverse-append a (b ∷ v)) ∙ some-first (reverse (b ∷ v)) (reverse a) (begins-back (b ∷ v) p) (some-back b v)

-- what is shortened and then trimmed is what was trimmed
pub trimmed-shortened : (a v z : List ℕ) → AreBlanks a → AreBlanks z → list_all is_plain v ≡ true → trimmed (shortened (a ++ (v ++ z))) ≡ v
trimmed-shortened a [] z h g p = ap trimmed (shortened-blanks (a ++ z) (all-append is_blank a z h g))
trimmed-shortened a (b ∷ v) z h g p =
    let e : begins (reverse (a ++ b ∷ v)) ≡ true = ends-plain a b v p in
    ap trimmed
    (ap shortened (sym (append_assoc a (b ∷ v) z)) ∙ last-blanks (a ++ b ∷ v) z g ∙ ap reverse (no-blank-first (reverse (a ++ b ∷ v)) e) ∙ reverse-reverse (a ++ b ∷ v))
    ∙ trimmed-plain-after a (b ∷ v) h p

all-without : (p : ℕ → Bool) (t : List ℕ) → list_all p t ≡ true → list_all p (without_first_blanks t) ≡ true
all-without p [] h = refl
all-without p (b ∷ t) h = by (is_blank b) (all-without p t (right_true (p b) (list_all p t) h))
  where
    by : (c : Bool) → list_all p (without_first_blanks t) ≡ true → list_all p (cond c (without_first_blanks t) (b ∷ t)) ≡ true
    by true later = later
    by false later = h

pub all-shortened : (p : ℕ → Bool) (t : List ℕ) → list_all p t ≡ true → list_all p (shortened t) ≡ true
all-shortened p t h = all-reverse p (without_first_blanks (reverse t)) (all-without p (reverse t) (all-reverse p t h))

-- ---- every text by what is trimmed of it

pub record Trims (t : List ℕ) : Type 0 where
  pub before : List ℕ
  pub after : List ℕ
  pub is_before : AreBlanks before
  pub is_after : AreBlanks after
  pub is : t ≡ before ++ (trimmed t ++ after)

abbrev FirstTrims : List ℕ → Type 0
FirstTrims t = (a : List ℕ) × AreBlanks a × (t ≡ a ++ without_first_blanks t)

first-trims : (t : List ℕ) → FirstTrims t
first-trims [] = ([], refl, refl)
first-trims (b ∷ t) = by (is_blank b) refl (first-trims t)
  where
    by : (c : Bool) → is_blank b ≡ c → FirstTrims t → FirstTrims (b ∷ t)
    by true e s = (b ∷ s.0, and_true (is_blank b) (list_all is_blank s.0) e s.1, ap (λ x. b ∷ x) s.2 ∙ ap (λ c. b ∷ (s.0 ++ cond c (without_first_blanks t) (b ∷ t))) (sym e))
    by false e s = ([], refl, ap (λ c. cond c (without_first_blanks t) (b ∷ t)) (sym e))

pub trims : (t : List ℕ) → Trims t
trims t =
    let s = first-trims t in
    let u = without_first_blanks t in
    let r = first-trims (reverse u) in
    let back : u ≡ trimmed t ++ reverse r.0 = sym (reverse-reverse u) ∙ ap reverse r.2 ∙ reverse-append r.0 (without_first_blanks (reverse u)) in
    record { before = s.0; after = reverse r.0; is_before = s.1; is_after = all-reverse is_blank r.0 r.1; is = s.2 ∙ ap (λ x. s.0 ++ x) back }

-- where nothing is left, all was blank
pub all-blank : (t : List ℕ) → trimmed t ≡ [] → AreBlanks t
all-blank t h =
    let s = trims t in
    subst AreBlanks (sym (s.is ∙ ap (λ x. s.before ++ (x ++ s.after)) h)) (all-append is_blank s.before s.after s.is_before s.is_after)
