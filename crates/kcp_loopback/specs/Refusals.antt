-- Which status codes refuse lists (RFC 9110, Status Codes).
use Rattle.std.specs.Prelude.{ℕ, Bool, not, ◌&&◌, nat_eq, nat_lt}

-- all below those of failures, but of success, of what is gone (410) and of what is asked for too often (429)
abbrev pub refuses_list : ℕ → Bool
refuses_list code = nat_lt code 500 && not (nat_eq code 200) && not (nat_eq code 410) && not (nat_eq code 429)
