use Rattle.std.proofs.Common.{◌≡◌, ◌≤◌, ◌-◌, length, false}
use Rattle.std.specs.Io.KnownBytes.{Consumes}
use Rattle.httparse.specs.Grammar.{HasNoResponse}
use Rattle.chunked.specs.Devices.{device_of, has_failed}
use Rattle.spec_http.specs.Connections.{longest_head, most_fields}
use Rattle.http_client.proofs.reading.find_head.Given as goal

-- what was read so far is no head, and is within the limit
abbrev pub invariant-loop-reader : goal.invariant-loop-reader
invariant-loop-reader g l =
    Consumes (g.R.Read.remaining (device_of l.fn.reader)) (g.R.Read.remaining (device_of l.reader)) l.bytes.items × HasNoResponse l.bytes.items
    × (length l.bytes.items ≤ longest_head) × (length l.fields ≡ most_fields) × (has_failed l.reader ≡ false)

-- how much a head may still have
abbrev pub decreases-loop-reader : goal.decreases-loop-reader
decreases-loop-reader g l = longest_head - length l.bytes.items
