-- Memory that is made ready for a line.
use Rattle.std.specs.Prelude.{◌≡◌, ◌≤◌, ℕ, [], Vec, vec_len, vec_capacity}
use Rattle.std.specs.Global.{Global}

-- an empty line, with room for any that is no reply
abbrev pub IsReady : Vec ℕ Global → Type 0
IsReady line = (line.items ≡ []) × (vec_len line ≡ 0) × (128 ≤ vec_capacity line)
