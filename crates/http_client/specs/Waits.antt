-- For how many milliseconds a server asks to be left alone (RFC 9110, Retry-After), and which codes are heeded (client-go, rest, retryAfter).
use Rattle.std.specs.Prelude.{◌*◌, ◌||◌, ℕ, nat_eq, nat_le, unwrap_or, Option, if◌then◌else◌}
use Rattle.http_client.specs.declared.answer.Answer.{Answer}
use Rattle.http_client.specs.declared.answer.Answer.TheVariants as answer

-- By the code of a reply and the seconds that it states. The RFC lets any reply state them; client-go heeds them where there were too many requests (429),
-- and where the server failed (each code from 500 on), and so do followers and workers.
abbrev pub milliseconds_by : ℕ → Option ℕ → ℕ
milliseconds_by code seconds = if nat_eq code 429 || nat_le 500 code then unwrap_or seconds 0 * 1000 else 0

-- by what became of a request
abbrev pub milliseconds_asked : Answer → ℕ
milliseconds_asked (answer.Replied r) = milliseconds_by r.code r.retry_after
milliseconds_asked answer.NotSent = 0
milliseconds_asked answer.Lost = 0
