use Rattle.std.proofs.Common.{◌≡◌, ◌≤◌, ◌-◌, length, false}
use Rattle.spec_http.specs.Connections.{longest_head, most_fields}
use Rattle.http_request_head.specs.Reading.{Reads}
use Rattle.http_request_head.proofs.reading.read_head.Given as goal

-- what was read so far, within the limit, from a reader that has not failed
abbrev pub invariant-loop-bytes : goal.invariant-loop-bytes
invariant-loop-bytes g l =
    Reads (g.R.Read.remaining l.fn.reader.device) (g.R.Read.remaining l.reader.device) l.fn.bytes.items l.bytes.items × (length l.bytes.items ≤ longest_head)
    × (length l.fields ≡ most_fields) × (l.reader.failed ≡ false)

-- how much a head may still have
abbrev pub decreases-loop-bytes : goal.decreases-loop-bytes
decreases-loop-bytes g l = longest_head - length l.bytes.items
