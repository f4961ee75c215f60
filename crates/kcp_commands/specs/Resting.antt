-- How long controllers rest before they begin anew.
use Rattle.std.specs.Prelude.{ℕ, Bool, ◌-◌, nat_lt, min, if◌then◌else◌}

-- after a run of a minute or more none of those before it
abbrev pub still_counted : ℕ → ℕ → ℕ → ℕ
still_counted failures began ended = if nat_lt (ended - began) 60000 then failures else 0

-- as long as a follower would, and at most 5 seconds where the server answered
abbrev pub rest_after : Bool → ℕ → ℕ
rest_after answered pause = if answered then min pause 5000 else pause
