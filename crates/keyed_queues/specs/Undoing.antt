-- Keys that were added, taken back.
use Rattle.std.specs.Prelude.{◌≡◌, List, [], ◌∷◌, false, reverse}
use Rattle.std.specs.FinSet as set
use Rattle.std.specs.declared.cmp.Ordering.{Ordering}
use Rattle.spec_client_go.specs.KeyQueues.{KeyQueue, added}

-- a key that may be added, and is not to be processed yet
abbrev pub IsFresh : {N : Type 0} {R : N → N → Ordering} → N → KeyQueue R → Type 0
IsFresh k w = (w.is_shut ≡ false) × (set.contains w.dirty k ≡ false)

-- a queue became another by these keys, each fresh as it was added, the last first
abbrev pub IsMadeBy : {N : Type 0} {R : N → N → Ordering} → KeyQueue R → List N → KeyQueue R → Type 0
IsMadeBy first [] now = now ≡ first
IsMadeBy {R = R} first (k ∷ ks) now = (before : KeyQueue R) × IsMadeBy first ks before × IsFresh k before × (now ≡ added k before)

-- the same, the last key last
abbrev pub IsUndoable : {N : Type 0} {R : N → N → Ordering} → KeyQueue R → List N → KeyQueue R → Type 0
IsUndoable first ks now = IsMadeBy first (reverse ks) now
