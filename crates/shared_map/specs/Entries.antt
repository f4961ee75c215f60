-- Entries in the order of their keys.
use denote.Ref.{Bor}
use Rattle.std.specs.Prelude.{List, [], ◌∷◌, Option, Some, None}
use Rattle.std.specs.declared.ops.Bound.{Bound}
use Rattle.std.specs.declared.ops.Bound.TheVariants.{Excluded, Unbounded}
use Rattle.std.specs.declared.cmp.Ordering.{Ordering}
use Rattle.std.specs.Ordering.{match_ordering}

-- the entries, with e under its key: in the place of the entry under an equal key, and else where the order has it
abbrev pub put_entry : {K X : Type 0} → (K → K → Ordering) → List (K × X) → K × X → List (K × X)
put_entry cmp [] e = e ∷ []
put_entry cmp (f ∷ fs) e = match_ordering (cmp e.0 f.0) (e ∷ f ∷ fs) (e ∷ fs) (f ∷ put_entry cmp fs e)

-- the bound that a key which is lent makes, if there is one
abbrev pub end_before : {K : Type 0} → Option (Bor K) → Bound K
end_before None = Unbounded
end_before (Some k) = Excluded k.now
