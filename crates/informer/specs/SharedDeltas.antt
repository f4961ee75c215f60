-- Deltas that are shared.
use Rattle.std.specs.Prelude.{List, map}
use Rattle.std.specs.Arc.{arc_value}
use Rattle.std.specs.declared.sync.Arc.{Arc}
use Rattle.reflector.specs.declared.deltas.Delta.{Delta}

-- the deltas, each behind a count
abbrev pub all_in : {A : Type 0} → List (Arc Delta A) → List Delta
all_in ds = map arc_value ds
