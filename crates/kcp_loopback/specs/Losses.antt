-- When it is said that a server gives no whole reply: by how many answers were lost in a row.
use Rattle.std.specs.Prelude.{ℕ, Bool, nat_le}

-- at the eighth, and at each after it
abbrev pub is_many : ℕ → Bool
is_many lost = nat_le 8 lost
