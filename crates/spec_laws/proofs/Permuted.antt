-- A list put in order has the same elements, and its beginning goes before the rest.
use Rattle.std.proofs.Common.{◌≡◌, ℕ, zero, suc, List, [], ◌∷◌, ◌++◌, take, drop, Bool, true, false, Ordering, if◌then◌else◌}
use Rattle.std.specs.Cmp.{IsTotalOrder}
use Rattle.std.specs.List.{AllByRecursion, Contains}
use Rattle.std.specs.List.Sorted.{IsPermutation}
use Rattle.std.specs.Ordering.{is_le, is_lt}
use Rattle.std.proofs.lemmas.List.Elements.{Contains-append_left, Contains-append_right, Contains-push}
use Rattle.std.proofs.lemmas.List.Sorted.{IsPermutation-refl, IsPermutation-sym, IsPermutation-trans, IsPermutation-cons, IsPermutation-middle}
use Rattle.spec_reconcile.specs.Orders.{placed, in_order}
use Rattle.spec_reconcile.proofs.InOrder.{Ascends, in_order_ascends}

-- ---- all of a list

pub all_dropped : {A : Type 0} (P : A → Type 0) (n : ℕ) (as' : List A) → AllByRecursion P as' → AllByRecursion P (drop n as')
all_dropped P zero as' h = h
all_dropped P (suc n) [] h = tt
all_dropped P (suc n) (a ∷ as') h = all_dropped P n as' h.1

pub all_taken : {A : Type 0} (P : A → Type 0) (n : ℕ) (as' : List A) → AllByRecursion P as' → AllByRecursion P (take n as')
all_taken P zero as' h = tt
all_taken P (suc n) [] h = tt
all_taken P (suc n) (a ∷ as') h = (h.0, all_taken P n as' h.1)

pub all_joined : {A : Type 0} (P : A → Type 0) (as' bs : List A) → AllByRecursion P as' → AllByRecursion P bs → AllByRecursion P (as' ++ bs)
all_joined P [] bs h k = k
all_joined P (a ∷ as') bs h k = (h.0, all_joined P as' bs h.1 k)

contains_first : {A : Type 0} (a : A) (as' : List A) → Contains (a ∷ as') a
contains_first a as' = Contains-append_left (a ∷ []) as' a (Contains-push [] a)

contains_rest : {A : Type 0} (a : A) (as' : List A) (z : A) → Contains as' z → Contains (a ∷ as') z
contains_rest a as' z h = Contains-append_right (a ∷ []) as' z h

pub all_contained : {A : Type 0} (P : A → Type 0) (as' : List A) → ((z : A) → Contains as' z → P z) → AllByRecursion P as'
all_contained P [] h = tt
all_contained P (a ∷ as') h = (h a (contains_first a as'), all_contained P as' (λ z k. h z (contains_rest a as' z k)))

-- ---- in order

placed_permutes-at : {A : Type 0} (cmp : A → A → Ordering) (a b : A) (bs : List A) (t : Bool) → IsPermutation (a ∷ bs) (placed cmp a bs) → IsPermutation (a ∷ b ∷ bs) (if t then a ∷ b ∷ bs else b ∷ placed cmp a bs)
placed_permutes-at cmp a b bs true h = IsPermutation-refl (a ∷ b ∷ bs)
placed_permutes-at cmp a b bs false h =
    IsPermutation-trans (a ∷ b ∷ bs) (b ∷ a ∷ bs) (b ∷ placed cmp a bs)
    (IsPermutation-sym (b ∷ a ∷ bs) (a ∷ b ∷ bs) (IsPermutation-middle (b ∷ []) a bs)) (IsPermutation-cons b (a ∷ bs) (placed cmp a bs) h)

placed_permutes : {A : Type 0} (cmp : A → A → Ordering) (a : A) (bs : List A) → IsPermutation (a ∷ bs) (placed cmp a bs)
placed_permutes cmp a [] = IsPermutation-refl (a ∷ [])
placed_permutes cmp a (b ∷ bs) = placed_permutes-at cmp a b bs (is_le (cmp a b)) (placed_permutes cmp a bs)

pub in_order_permutes : {A : Type 0} (cmp : A → A → Ordering) (as' : List A) → IsPermutation as' (in_order cmp as')
in_order_permutes cmp [] = IsPermutation-refl []
in_order_permutes cmp (a ∷ as') =
    IsPermutation-trans (a ∷ as') (a ∷ in_order cmp as') (placed cmp a (in_order cmp as'))
    (IsPermutation-cons a as' (in_order cmp as') (in_order_permutes cmp as')) (placed_permutes cmp a (in_order cmp as'))

-- none of the rest is below one of the beginning
taken_first : {A : Type 0} {cmp : A → A → Ordering} (total : IsTotalOrder cmp) (n : ℕ) (as' : List A) → Ascends total as'
    → AllByRecursion (λ v. AllByRecursion (λ p. is_lt (cmp p v) ≡ false) (drop n as')) (take n as')
taken_first total zero as' h = tt
taken_first total (suc n) [] h = tt
taken_first {cmp = cmp} total (suc n) (a ∷ as') h = (all_dropped (λ p. is_lt (cmp p a) ≡ false) n as' h.0, taken_first total n as' h.1)

pub lowest_first : {A : Type 0} {cmp : A → A → Ordering} (total : IsTotalOrder cmp) (n : ℕ) (as' : List A)
    → AllByRecursion (λ v. AllByRecursion (λ p. is_lt (cmp p v) ≡ false) (drop n (in_order cmp as'))) (take n (in_order cmp as'))
lowest_first {cmp = cmp} total n as' = taken_first total n (in_order cmp as') (in_order_ascends total as')
