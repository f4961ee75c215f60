use Rattle.std.proofs.Common.{◌≡◌, map, take}
use Rattle.httparse.specs.Spans.{header_bytes}
use Rattle.http_request_head.specs.Fields.{field_seen}
use Rattle.http_request_head.proofs.request_head.fields_of.Given as goal

-- the fields so far are those that the spans so far cover
abbrev pub invariant-loop-span : goal.invariant-loop-span
invariant-loop-span l = map field_seen l.fields.items ≡ map (header_bytes l.bytes) (take l.span-index l.spans)
