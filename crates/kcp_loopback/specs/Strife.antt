-- When writes are refused as conflicts again and again: by a sum, which a conflict makes greater, and a write that is taken less.
use Rattle.std.specs.Prelude.{ℕ, Bool, ◌+◌, ◌-◌, min, nat_eq, nat_le}

-- by two, but no further than two above the sum at which it is said
abbrev pub after_conflict : ℕ → ℕ
after_conflict sum = min (sum + 2) 42

abbrev pub after_taken : ℕ → ℕ
after_taken sum = sum - 1

-- it is said, of a conflict before which the sum was this one
abbrev pub is_many : ℕ → Bool
is_many sum = nat_le 40 sum

-- it is over
abbrev pub is_over : ℕ → Bool
is_over sum = nat_eq sum 0
