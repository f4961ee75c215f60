-- How the bytes of a text agree with a form, place by place.
use Rattle.std.specs.Prelude.{ℕ, Bool, ◌==◌, if◌then◌else◌}
use Rattle.spec_api.specs.Moments.{is_digit}

-- a byte may stand where the form has this mark
abbrev pub fits : ℕ → ℕ → Bool
fits mark byte = if mark == 48 then is_digit byte else byte == mark
