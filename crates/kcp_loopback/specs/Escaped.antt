-- Bytes as a terminal may be shown them.
use Rattle.std.specs.Prelude.{ℕ, ◌+◌, ◌/◌, ◌%◌, ◌&&◌, List, [], ◌∷◌, flat_map, nat_le, nat_lt, Bool, if◌then◌else◌}

-- a printable character of ASCII (RFC 20)
abbrev pub is_printable : ℕ → Bool
is_printable b = nat_le 32 b && nat_lt b 127

-- a digit from 0 to f
abbrev pub hex_digit : ℕ → ℕ
hex_digit n = if nat_lt n 10 then 48 + n else 87 + n

-- as it is, or \x and two digits
abbrev pub shown : ℕ → List ℕ
shown b = if is_printable b then b ∷ [] else 92 ∷ 120 ∷ hex_digit (b / 16) ∷ hex_digit (b % 16) ∷ []

abbrev pub escaped : List ℕ → List ℕ
escaped bytes = flat_map shown bytes
