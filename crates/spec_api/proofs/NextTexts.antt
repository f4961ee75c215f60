-- The first text after a text, in byte order.
use Rattle.std.proofs.Common.{◌≡◌, ◌++◌, ℕ, zero, suc, List, [], ◌∷◌, true, is_le, is_lt, nat_cmp, Ordering, Less, Equal, Greater, refl, arith}
use Rattle.std.specs.Cmp.Lexicographic.{slice_cmp}
use Rattle.std.specs.Ordering.{ordering_then}

pub nil_first : (t : List ℕ) → is_le (slice_cmp nat_cmp [] t) ≡ true
nil_first [] = refl
nil_first (x ∷ t) = refl

pub then_next : (o r q : Ordering) → is_le r ≡ is_lt q → is_le (ordering_then o r) ≡ is_lt (ordering_then o q)
then_next Less r q same = refl
then_next Equal r q same = same
then_next Greater r q same = refl

-- the texts that are no earlier than a text and a zero are those after the text
pub zero_next : (s t : List ℕ) → is_le (slice_cmp nat_cmp (s ++ 0 ∷ []) t) ≡ is_lt (slice_cmp nat_cmp s t)
zero_next [] [] = refl
zero_next [] (zero ∷ t) = nil_first t
zero_next [] (suc y ∷ t) = grind arith
zero_next (x ∷ s) [] = refl
zero_next (x ∷ s) (y ∷ t) = then_next (nat_cmp x y) (slice_cmp nat_cmp (s ++ 0 ∷ []) t) (slice_cmp nat_cmp s t) (zero_next s t)
