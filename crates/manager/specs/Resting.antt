-- How long who lets time pass at a board has nothing to do.
use Rattle.std.specs.Prelude.{◌-◌, ℕ, min, max, unwrap_or}
use Rattle.spec_client_go.specs.Boards.{Board}
use Rattle.work_board.specs.Due.{until_due}

-- how many milliseconds are left, of a second, until it is looked again for expectations that aged out
abbrev pub until_look : ℕ → ℕ → ℕ
until_look passed woken = 1000 - (passed - woken)

-- it sleeps until the next key comes due, and not beyond that look; a millisecond at least
abbrev pub rest_before : ℕ → ℕ → Board → ℕ
rest_before passed woken b = max (min (unwrap_or (until_due b) (until_look passed woken)) (until_look passed woken)) 1
