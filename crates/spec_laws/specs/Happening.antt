-- What can happen, one entry after another.
use Rattle.std.specs.Prelude.{ℕ, ◌≤◌, ◌+◌, [], ◌∷◌}
use Rattle.spec_api.specs.History.{History, write, compaction}

-- these entries can follow when revision r is present: a compaction reaches no further than what has happened before it (etcd API, Compact)
abbrev pub Follows : ℕ → History → Type 0
Follows r [] = Unit {0}
Follows r (write w ∷ h) = Follows (r + 1) h
Follows r (compaction c ∷ h) = (c ≤ r) × Follows r h

-- these entries can happen, from the beginning
abbrev pub CanHappen : History → Type 0
CanHappen h = Follows 1 h
