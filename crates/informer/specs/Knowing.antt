-- What readers know of what was published: a list of batches, the deltas of each of which were published at once.
use Rattle.std.specs.Prelude.{◌≡◌, ℕ, List, [], ◌∷◌, ◌++◌, All}
use mathlib.Core.Option.{some}
use lib.ListN.{get_elem?}
use Rattle.reflector.specs.declared.deltas.Delta.{Delta}
use Rattle.informer.specs.declared.published.Published.{Published}
use Rattle.informer.specs.declared.views.MapView.{MapView}
use Rattle.informer.specs.Published.{IsAfter}

-- the whole begins with the front
abbrev pub StartsWith : List (List Delta) → List (List Delta) → Type 0
StartsWith whole front = (rest : List (List Delta)) × (whole ≡ front ++ rest)

-- the batches begin with each list that is known
abbrev pub StartsWithAll : List (List Delta) → MapView → Type 0
StartsWithAll bs v = All (λ front. StartsWith bs front) v.known

abbrev pub knowing_nothing : MapView
knowing_nothing = record { known = [] }

-- one list is known
abbrev pub knowing : List (List Delta) → MapView
knowing bs = record { known = bs ∷ [] }

-- what either knows, the first one's first
abbrev pub knowing_both : MapView → MapView → MapView
knowing_both v w = record { known = v.known ++ w.known }

-- the list that was known last
abbrev pub first_of : List (List (List Delta)) → List (List Delta)
first_of [] = []
first_of (bs ∷ rest) = bs

abbrev pub latest : MapView → List (List Delta)
latest v = first_of v.known

-- the rule: whole batches made the map, and begin with whatever anyone knows
abbrev pub IsKept : Published → List MapView → Type 0
IsKept p views = (bs : List (List Delta)) × IsAfter bs p × ((seat : ℕ) (v : MapView) → get_elem? views seat ≡ some v → StartsWithAll bs v)

-- the map that is seen is after batches that begin with all that was known, and now these are known
abbrev pub HasSeen : MapView → Published → MapView → Type 0
HasSeen v p w = (bs : List (List Delta)) × (w ≡ knowing bs) × IsAfter bs p × StartsWithAll bs v
