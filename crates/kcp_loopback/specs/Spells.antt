-- When a trouble is over that comes and goes with answers: after some in a row without it.
use Rattle.std.specs.Prelude.{ℕ, Bool, ◌+◌, min, nat_le, if◌then◌else◌}

-- how many it needs when it comes again: twice as many as before, up to 1,024; where that many were without it, four
abbrev pub needed_again : ℕ → ℕ → ℕ
needed_again needed without = if nat_le 1024 without then 4 else min (needed + needed) 1024

-- it is over after as many as it needs; while it is left somewhere, after 1,024
abbrev pub is_over : Bool → ℕ → ℕ → Bool
is_over left needed without = if left then nat_le 1024 without else nat_le needed without
