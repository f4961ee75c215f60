-- Worked numbers of rolling updates, computed from the definitions.
use Rattle.std.specs.Prelude.{◌≡◌, ℕ, pos, [], ◌∷◌}
use Rattle.spec_api.specs.declared.amounts.Amount.TheVariants.{Pods, Percent}
use Rattle.spec_reconcile.specs.Rollouts.{pace, growth, resized, room, shrunk}
use Rattle.spec_reconcile.specs.declared.rollouts.Pace.{Pace}
use Rattle.spec_reconcile.specs.declared.rollouts.Tally.{Tally}

abbrev pub of : ℕ → ℕ → Tally
of n available = record { replicas = n; available = available }

-- ten pods, 25% above and 25% unavailable
abbrev pub ten : Pace
ten = pace 10 (Percent 25) (Percent 25)

-- 3 of 10 is more than a quarter, 2 of 10 less; where percentages round to nothing, one pod may be unavailable
abbrev pub PacesAreRounded : Type 0
PacesAreRounded =
    (ten ≡ record { wanted = 10; surge = 3; unavailable = 2 })
    × (pace 1 (Percent 25) (Percent 25) ≡ record { wanted = 1; surge = 1; unavailable = 0 })
    × (pace 3 (Percent 50) (Percent 50) ≡ record { wanted = 3; surge = 2; unavailable = 1 })
    × (pace 4 (Pods (pos 0)) (Percent 1) ≡ record { wanted = 4; surge = 0; unavailable = 1 })
    × (pace 4 (Pods (pos 1)) (Pods (pos 9)) ≡ record { wanted = 4; surge = 1; unavailable = 4 })

-- ten available pods of an old template become ten of a new one: never more than 13 are to be there, and never fewer than 8 are available
abbrev pub TenAreReplaced : Type 0
TenAreReplaced =
    (growth ten 10 0 ≡ 3)
    × (room ten (of 3 0) (of 10 10 ∷ []) ≡ 2)
    × (shrunk ten (of 3 0) (of 10 10 ∷ []) ≡ 8 ∷ [])
    × (resized ten 11 3 ≡ 5)
    × (room ten (of 5 5) (of 8 8 ∷ []) ≡ 5)
    × (shrunk ten (of 5 5) (of 8 8 ∷ []) ≡ 3 ∷ [])
    × (resized ten 8 5 ≡ 10)
    × (shrunk ten (of 10 10) (of 3 3 ∷ []) ≡ 0 ∷ [])

-- a new set that is too large shrinks, and nothing grows beyond the most; a status ahead of its spec leaves more room
abbrev pub NewSetsAreBounded : Type 0
NewSetsAreBounded = (resized ten 12 12 ≡ 10) × (resized ten 15 4 ≡ 4) × (growth ten 20 0 ≡ 0) × (room ten (of 3 5) (of 7 0 ∷ []) ≡ 4)
