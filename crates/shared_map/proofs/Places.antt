-- Entries and chunks, one after another.
use Rattle.std.proofs.Common.{suc, zero, ◌≡◌, ◌++◌, ◌+◌, ◌<◌, ℕ, List, [], ◌∷◌, Bool, cond, Ordering, Less, Equal, refl, sym, ap, ◌∙◌, length, take, drop, map, subst, slice_index_or, slice_set, arith}
use Rattle.std.proofs.lemmas.List.{drop_more, drop-map, take-map, append_assoc, map-append, set_split}
use Rattle.std.specs.List.{insert, remove}
use Rattle.shared_map.specs.Parts.{AllAre, BeginsAt}
use Rattle.shared_map.proofs.Between.{plus_one}

pub map_at : {X Y : Type 0} (f : X → Y) (xs : List X) (i : ℕ) (x : X) → i < length xs → x ≡ slice_index_or xs i x → drop i (map f xs) ≡ f x ∷ drop (i + 1) (map f xs)
map_at f xs i x within is = drop-map f i xs ∙ ap (map f) (drop_more xs i x within ∙ ap (λ y. y ∷ drop (i + 1) xs) (sym is)) ∙ ap (λ l. f x ∷ l) (sym (drop-map f (i + 1) xs))

module _ {K X : Type 0} (R : K → K → Ordering) where
  pub begins_here : (k : K) (l rest : List (K × X)) (x : K × X) (found : Bool) → l ≡ x ∷ rest → R k x.0 ≡ cond found Equal Less → BeginsAt R k found l
  begins_here k l rest x found is at = subst (λ l. BeginsAt R k found l) (sym is) at

  all_suc : (o : Ordering) (k : K) (l : List (K × X)) (i : ℕ) (x : K × X) (rest : List (K × X)) → drop i l ≡ x ∷ rest → AllAre R o k (take i l) → R k x.0 ≡ o → AllAre R o k (take (suc i) l)
  all_suc o k [] zero x rest is a h = cc
  all_suc o k [] (suc i) x rest is a h = cc
  all_suc o k (y ∷ l) zero x rest is a h = (ap (λ (l : List (K × X)). R k (slice_index_or l 0 x).0) is ∙ h, tt)
  all_suc o k (y ∷ l) (suc i) x rest is a h = (a.0, all_suc o k l i x rest is a.1 h)

  pub all_more : (o : Ordering) (k : K) (l : List (K × X)) (i : ℕ) (x : K × X) (rest : List (K × X)) → drop i l ≡ x ∷ rest → AllAre R o k (take i l) → R k x.0 ≡ o → AllAre R o k (take (i + 1) l)
  all_more o k l i x rest is a h = subst (λ n. AllAre R o k (take n l)) (sym (plus_one i)) (all_suc o k l i x rest is a h)

-- what was before a place, an entry, and what is from another place on
pub laid : {X Y : Type 0} (f : X → Y) (xs : List X) (y : Y) (at next : ℕ) → (map f (take at xs) ++ (y ∷ [])) ++ map f (drop next xs) ≡ take at (map f xs) ++ (y ∷ drop next (map f xs))
laid f xs y at next =
    append_assoc (map f (take at xs)) (y ∷ []) (map f (drop next xs)) ∙ ap (λ l. l ++ (y ∷ map f (drop next xs))) (sym (take-map f at xs))
    ∙ ap (λ l. take at (map f xs) ++ (y ∷ l)) (sym (drop-map f next xs))

-- ---- chunks that are put in the place of one

pub map_set : {X Y : Type 0} (f : X → Y) (xs : List X) (i : ℕ) (x : X) → i < length xs → map f (slice_set xs i x) ≡ take i (map f xs) ++ (f x ∷ drop (i + 1) (map f xs))
map_set f xs i x within =
    ap (map f) (set_split xs i x within) ∙ map-append f (take i xs) (x ∷ drop (suc i) xs) ∙ ap (λ l. l ++ (f x ∷ map f (drop (suc i) xs))) (sym (take-map f i xs))
    ∙ ap (λ l. take i (map f xs) ++ (f x ∷ l)) (sym (drop-map f (suc i) xs) ∙ ap (λ n. drop n (map f xs)) (sym (plus_one i)))

set_suc : {X : Type 0} (xs : List X) (i : ℕ) (x y : X) → i < length xs → slice_set (take (suc i) xs ++ (y ∷ drop (suc i) xs)) i x ≡ take i xs ++ (x ∷ y ∷ drop (suc i) xs)
set_suc [] i x y within = absurd (omega (arith, within))
set_suc (z ∷ xs) zero x y within = refl
set_suc (z ∷ xs) (suc i) x y within = ap (λ l. z ∷ l) (set_suc xs i x y (omega (arith, within)))

pub map_two : {X Y : Type 0} (f : X → Y) (xs : List X) (i : ℕ) (x y : X) → i < length xs → map f (slice_set (insert xs (i + 1) y) i x) ≡ take i (map f xs) ++ (f x ∷ f y ∷ drop (i + 1) (map f xs))
map_two f xs i x y within =
    ap (λ n. map f (slice_set (insert xs n y) i x)) (plus_one i) ∙ ap (map f) (set_suc xs i x y within) ∙ map-append f (take i xs) (x ∷ y ∷ drop (suc i) xs)
    ∙ ap (λ l. l ++ (f x ∷ f y ∷ map f (drop (suc i) xs))) (sym (take-map f i xs)) ∙ ap (λ l. take i (map f xs) ++ (f x ∷ f y ∷ l)) (sym (drop-map f (suc i) xs) ∙ ap (λ n. drop n (map f xs)) (sym (plus_one i)))

pub map_removed : {X Y : Type 0} (f : X → Y) (xs : List X) (i : ℕ) → map f (remove xs i) ≡ take i (map f xs) ++ drop (i + 1) (map f xs)
map_removed f xs i =
    map-append f (take i xs) (drop (suc i) xs) ∙ ap (λ l. l ++ map f (drop (suc i) xs)) (sym (take-map f i xs))
    ∙ ap (λ l. take i (map f xs) ++ l) (sym (drop-map f (suc i) xs) ∙ ap (λ n. drop n (map f xs)) (sym (plus_one i)))

pub map_inserted : {X Y : Type 0} (f : X → Y) (xs : List X) (i : ℕ) (x : X) → map f (insert xs i x) ≡ take i (map f xs) ++ (f x ∷ drop i (map f xs))
map_inserted f xs i x =
    map-append f (take i xs) (x ∷ drop i xs) ∙ ap (λ l. l ++ (f x ∷ map f (drop i xs))) (sym (take-map f i xs)) ∙ ap (λ l. take i (map f xs) ++ (f x ∷ l)) (sym (drop-map f i xs))
