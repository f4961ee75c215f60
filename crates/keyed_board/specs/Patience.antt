-- For how long a server that refuses a request asks to be left alone (RFC 9110, Retry-After).
use Rattle.std.specs.Prelude.{ℕ, ◌*◌, ◌||◌, nat_eq, nat_le, unwrap_or, if◌then◌else◌}
use Rattle.keyed_board.specs.declared.failure.Failure.{Failure}
use Rattle.keyed_board.specs.declared.failure.Failure.TheVariants.{Refused, NoReply, NoMemory, NoVersion, Other}

-- in milliseconds; only where there were too many requests (429), or the fault is the server's own (500 and above), as client-go heeds it
abbrev pub milliseconds_asked : Failure → ℕ
milliseconds_asked (Refused code seconds) = if nat_eq code 429 || nat_le 500 code then 1000 * unwrap_or seconds 0 else 0
milliseconds_asked NoReply = 0
milliseconds_asked NoMemory = 0
milliseconds_asked NoVersion = 0
milliseconds_asked (Other words) = 0
