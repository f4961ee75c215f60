-- What is published, and after which deltas.
use Rattle.std.specs.Prelude.{◌≡◌, ◌+◌, ◌<◌, List, [], ◌∷◌, ◌++◌, length, All}
use Rattle.spec_client_go.specs.Informers.{nothing, applied, all_applied}
use Rattle.std.specs.Arc.{arc_value}
use Rattle.std.specs.declared.sync.Arc.{Arc}
use Rattle.reflector.specs.Deltas.{delta_of, deltas_of}
use Rattle.reflector.specs.declared.deltas.Delta.{Delta}
use Rattle.informer.specs.declared.published.Published.{Published}

-- the map after one more delta, which is counted
abbrev pub with_delta : Published → Delta → Published
with_delta p d = record { indexed = applied p.indexed (delta_of d); count = p.count + 1 }

-- the same, where the delta is shared
abbrev pub with_shared : {A : Type 0} → Published → Arc Delta A → Published
with_shared p d = with_delta p (arc_value d)

-- the deltas of batches, each of which is published at once
abbrev pub all_of : List (List Delta) → List Delta
all_of [] = []
all_of (batch ∷ batches) = batch ++ all_of batches

-- one more batch, where there is any delta
abbrev pub with_batch : List (List Delta) → List Delta → List (List Delta)
with_batch batches [] = batches
with_batch batches (d ∷ ds) = batches ++ (d ∷ ds) ∷ []

-- the map is what the deltas of these batches make of nothing; they are counted, and no batch is empty
abbrev pub IsAfter : List (List Delta) → Published → Type 0
IsAfter bs p = (p.indexed ≡ all_applied nothing (deltas_of (all_of bs))) × (p.count ≡ length (all_of bs)) × All (λ b. 0 < length b) bs
