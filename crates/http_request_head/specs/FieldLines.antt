-- Lines of a head, counted.
use Rattle.std.specs.Prelude.{ℕ, suc, List, [], ◌∷◌, Bool, not, ◌||◌, ◌==◌, if◌then◌else◌}

-- how many lines end in the bytes; those that are empty do not count before something else has come
abbrev pub line_ends : Bool → List ℕ → ℕ
line_ends begun [] = 0
line_ends begun (b ∷ bs) =
    if b == 10 then (if begun then suc (line_ends begun bs) else line_ends begun bs) else line_ends (begun || not (b == 13)) bs
