use Rattle.std.proofs.Common.{◌≡◌, drop, map}
use Rattle.spec_http.specs.Heads.{values_of}
use Rattle.http_request_head.specs.Fields.{field_seen}
use Rattle.http_request_head.proofs.field.first_value.Given as goal

-- none of the fields so far has the name
abbrev pub invariant-loop-field : goal.invariant-loop-field
invariant-loop-field l = values_of l.name (map field_seen (drop l.field-index l.fields)) ≡ values_of l.name (map field_seen l.fields)
