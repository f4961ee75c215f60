-- Which status codes deny a write (RFC 9110, Status Codes).
use Rattle.std.specs.Prelude.{ℕ, Bool, ◌+◌, min, not, ◌&&◌, nat_eq, nat_lt, nat_le}

-- the client errors, but what says that the object is gone (404, 410) or is not as it was looked at (409): these are planned anew
abbrev pub denies : ℕ → Bool
denies code = nat_le 400 code && nat_lt code 500 && not (nat_eq code 404) && not (nat_eq code 409) && not (nat_eq code 410)

-- a denial that comes again is over after twice as many writes that are taken, up to 1,024
abbrev pub needed_again : ℕ → ℕ
needed_again needed = min (needed + needed) 1024
