-- Turns among keys.
use Rattle.std.specs.Prelude.{ℕ, nat_lt, if◌then◌else◌}

-- the place whose turn it is, of so many; beyond the last it is the first one's
abbrev pub turn : ℕ → ℕ → ℕ
turn next count = if nat_lt next count then next else 0
