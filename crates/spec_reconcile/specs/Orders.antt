-- Lists put in an order.
use Rattle.std.specs.Prelude.{List, [], ◌∷◌, if◌then◌else◌}
use Rattle.std.specs.Ordering.{is_le}
use Rattle.std.specs.declared.cmp.Ordering.{Ordering}

-- into its place in a list that is in order: before the first that it is not after
abbrev pub placed : {A : Type 0} → (A → A → Ordering) → A → List A → List A
placed cmp a [] = a ∷ []
placed cmp a (b ∷ bs) = if is_le (cmp a b) then a ∷ b ∷ bs else b ∷ placed cmp a bs

-- in order; those that tie stay as they stand
abbrev pub in_order : {A : Type 0} → (A → A → Ordering) → List A → List A
in_order cmp [] = []
in_order cmp (a ∷ as') = placed cmp a (in_order cmp as')
