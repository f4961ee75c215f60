-- How long it is until a key comes due.
use Rattle.std.specs.Prelude.{◌-◌, ℕ, Option, option_map}
use Rattle.spec_client_go.specs.Boards.{Board}
use Rattle.spec_client_go.specs.KeyDelays.{next_moment}

-- how many milliseconds pass until the next key comes due, if one is delayed
abbrev pub until_due : Board → Option ℕ
until_due b = option_map (λ moment. moment - b.time) (next_moment b.delays)
