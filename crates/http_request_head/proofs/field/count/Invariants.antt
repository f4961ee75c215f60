use Rattle.std.proofs.Common.{◌≡◌, ◌≤◌, ◌+◌, length, drop, map}
use Rattle.spec_http.specs.Heads.{values_of}
use Rattle.http_request_head.specs.Fields.{field_seen}
use Rattle.http_request_head.proofs.field.count.Given as goal

-- those so far, and those of the fields that are left, are all
abbrev pub invariant-loop-field : goal.invariant-loop-field
invariant-loop-field l =
    (l.count + length (values_of l.name (map field_seen (drop l.field-index l.fields))) ≡ length (values_of l.name (map field_seen l.fields))) × (l.count ≤ l.field-index)
