use Rattle.std.proofs.Common.{◌≡◌, ◌≤◌, ◌+◌, drop, false}
use Rattle.http_request_head.specs.FieldLines.{line_ends}
use Rattle.http_request_head.proofs.field_lines.line_ends.Given as goal

-- the lines that ended so far and those that will are all
abbrev pub invariant-loop-byte : goal.invariant-loop-byte
invariant-loop-byte l = (l.ends + line_ends l.begun (drop l.byte-index l.bytes) ≡ line_ends false l.bytes) × (l.ends ≤ l.byte-index)
