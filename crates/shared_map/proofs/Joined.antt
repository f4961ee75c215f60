-- A chunk in the place of another.
use Rattle.std.proofs.Common.{suc, zero, ◌≡◌, ◌++◌, ◌+◌, ◌<◌, ◌≤◌, ℕ, List, [], ◌∷◌, refl, sym, ap, ◌∙◌, length, take, drop, map, arith}
use Rattle.std.proofs.lemmas.List.{append_assoc, map-append, take-append-drop}
use Rattle.std.proofs.lemmas.Grind.{flat_map-append}
use Rattle.std.proofs.lemmas.List.Edits.{length-remove}
use Rattle.shared_map.proofs.Between.{plus_one}
use Rattle.shared_map.specs.Parts.{joined, AreFilled}
use Rattle.shared_map.proofs.Orders.{joined_split, filled_drop, filled_take, filled_append}

module _ {K X : Type 0} where
  pub joined_one : (ps qs : List (List (K × X))) (p : List (K × X)) → joined (ps ++ (p ∷ qs)) ≡ joined ps ++ (p ++ joined qs)
  joined_one ps qs p = flat_map-append (λ p. p) ps (p ∷ qs)

  pub joined_two : (ps qs : List (List (K × X))) (p r : List (K × X)) → joined (ps ++ (p ∷ r ∷ qs)) ≡ joined ps ++ ((p ++ r) ++ joined qs)
  joined_two ps qs p r = flat_map-append (λ p. p) ps (p ∷ r ∷ qs) ∙ ap (λ l. joined ps ++ l) (sym (append_assoc p r (joined qs)))

  pub filled_one : (ps : List (List (K × X))) (i j : ℕ) (p : List (K × X)) → AreFilled ps → 0 < length p → AreFilled (take i ps ++ (p ∷ drop j ps))
  filled_one ps i j p f some = filled_append (take i ps) (p ∷ drop j ps) (filled_take ps i f) (some, filled_drop ps j f)

  pub filled_two : (ps : List (List (K × X))) (i j : ℕ) (p r : List (K × X)) → AreFilled ps → 0 < length p → 0 < length r → AreFilled (take i ps ++ (p ∷ r ∷ drop j ps))
  filled_two ps i j p r f some more = filled_append (take i ps) (p ∷ r ∷ drop j ps) (filled_take ps i f) (some, (more, filled_drop ps j f))

  pub filled_none : (ps : List (List (K × X))) (i j : ℕ) → AreFilled ps → AreFilled (take i ps ++ drop j ps)
  filled_none ps i j f = filled_append (take i ps) (drop j ps) (filled_take ps i f) (filled_drop ps j f)

  pub joined_none : (ps qs : List (List (K × X))) → joined (ps ++ qs) ≡ joined ps ++ joined qs
  joined_none ps qs = flat_map-append (λ p. p) ps qs

  -- all entries are those before a chunk, its own, and those after it
  pub around : (ps : List (List (K × X))) (i : ℕ) (p : List (K × X)) → drop i ps ≡ p ∷ drop (i + 1) ps → joined ps ≡ joined (take i ps) ++ (p ++ joined (drop (i + 1) ps))
  around ps i p is = joined_split ps i ∙ ap (λ l. joined (take i ps) ++ joined l) is

pub seen_halves : {X Y : Type 0} (f : X → Y) (xs : List X) (n : ℕ) → map f (take n xs) ++ map f (drop n xs) ≡ map f xs
seen_halves f xs n = sym (map-append f (take n xs) (drop n xs)) ∙ ap (map f) (take-append-drop n xs)

pub some_taken : {X Y : Type 0} (f : X → Y) (xs : List X) (n : ℕ) → 0 < n → n < length xs → 0 < length (map f (take n xs))
some_taken f [] n some within = absurd (omega (arith, within))
some_taken f (x ∷ xs) zero some within = absurd (omega (arith, some))
some_taken f (x ∷ xs) (suc n) some within = omega arith

pub some_dropped : {X Y : Type 0} (f : X → Y) (xs : List X) (n : ℕ) → n < length xs → 0 < length (map f (drop n xs))
some_dropped f [] n within = absurd (omega (arith, within))
some_dropped f (x ∷ xs) zero within = omega arith
some_dropped f (x ∷ xs) (suc n) within = some_dropped f xs n (omega (arith, within))

pub length_without : {X : Type 0} (l : List X) (at : ℕ) → at < length l → length (take at l ++ drop (at + 1) l) + 1 ≡ length l
length_without l at within = ap (λ n. length (take at l ++ drop n l) + 1) (plus_one at) ∙ length-remove l at within

pub nothing : {X : Type 0} (xs : List X) → length xs ≡ 0 → xs ≡ []
nothing [] is = refl
nothing (x ∷ xs) is = absurd (omega (arith, is))

pub drop_done : {X : Type 0} (xs : List X) (n : ℕ) → length xs ≤ n → drop n xs ≡ []
drop_done [] zero is = refl
drop_done [] (suc n) is = refl
drop_done (x ∷ xs) zero is = absurd (omega (arith, is))
drop_done (x ∷ xs) (suc n) is = drop_done xs n (omega (arith, is))

pub first_of : {X : Type 0} (x y : X) (xs ys : List X) → x ∷ xs ≡ y ∷ ys → x ≡ y
first_of x y xs ys is = ap (λ l. head_or l x) is
  where
    head_or : {X : Type 0} → List X → X → X
    head_or [] d = d
    head_or (z ∷ zs) d = z
