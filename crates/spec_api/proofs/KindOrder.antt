-- A kind is told by its place in the order of kinds, and the kind after it has the next place.
use Rattle.std.proofs.Common.{◌≡◌, ◌≤◌, ℕ, zero, suc, ◌+◌, List, [], ◌∷◌, length, map, Bool, true, Some, None, option_map, unwrap_or, slice_get, refl, sym, ap, ◌∙◌, arith}
use Rattle.std.proofs.lemmas.Option.{slice_get-map, slice_get_within}
use Rattle.std.specs.List.{list_all}
use Rattle.spec_api.proofs.Truths.{both_true}
use Rattle.spec_api.specs.declared.kinds.Kind.{Kind}
use Rattle.spec_api.specs.Kinds.{kinds, rank, kinds_at, kind_after}

pub rank_tells : (a b : Kind) → rank a ≡ rank b → a ≡ b
rank_tells a b e = ap (λ o. unwrap_or o a) (sym (kinds_at a) ∙ ap (slice_get kinds) e ∙ kinds_at b)

-- the numbers from n on, one for each element
abbrev numbers : {A : Type 0} → ℕ → List A → List ℕ
numbers n [] = []
numbers n (x ∷ xs) = n ∷ numbers (n + 1) xs

number_at : {A : Type 0} (n i : ℕ) (xs : List A) (x : A) → slice_get xs i ≡ Some x → slice_get (numbers n xs) i ≡ Some (n + i)
number_at n i [] x is = cc
number_at n zero (y ∷ xs) x is = ap (λ m. Some m) (omega arith)
number_at n (suc i) (y ∷ xs) x is = number_at (n + 1) i xs x is ∙ ap (λ m. Some m) (omega arith)

ranks : map rank kinds ≡ numbers 0 kinds
ranks = refl

rank_at : (i : ℕ) (k : Kind) → slice_get kinds i ≡ Some k → rank k ≡ i
rank_at i k is =
    ap (λ o. unwrap_or o (rank k))
    (sym (ap (option_map rank) is) ∙ sym (slice_get-map rank kinds i) ∙ ap (λ ns. slice_get ns i) ranks ∙ number_at 0 i kinds k is)
    ∙ omega arith

past_end : {A : Type 0} (xs : List A) (i : ℕ) → slice_get xs i ≡ None → length xs ≤ i
past_end [] i none = omega arith
past_end (x ∷ xs) zero none = cc
past_end (x ∷ xs) (suc i) none = let later = past_end xs i none in omega (arith, later)

all_at : {A : Type 0} (p : A → Bool) (xs : List A) (i : ℕ) (x : A) → slice_get xs i ≡ Some x → list_all p xs ≡ true → p x ≡ true
all_at p [] i x is all = cc
all_at p (y ∷ xs) zero x is all = let same : y ≡ x = cc in ap p (sym same) ∙ (both_true (p y) (list_all p xs) all).0
all_at p (y ∷ xs) (suc i) x is all = all_at p xs i x is (both_true (p y) (list_all p xs) all).1

-- what is so of all kinds in the list is so of each
pub each_kind : (p : Kind → Bool) → list_all p kinds ≡ true → (k : Kind) → p k ≡ true
each_kind p all k = all_at p kinds (rank k) k (kinds_at k) all

-- the kind after a kind has the next place
pub rank_after : (j n : Kind) → kind_after j ≡ Some n → rank n ≡ rank j + 1
rank_after j n is = rank_at (rank j + 1) n is

-- no kind has a place after that of the last
pub last_rank : (j l : Kind) → kind_after j ≡ None → rank l ≤ rank j
last_rank j l none = omega (arith, past_end kinds (rank j + 1) none, slice_get_within kinds (rank l) l (kinds_at l))
