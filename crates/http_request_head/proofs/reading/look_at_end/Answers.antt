use Rattle.std.proofs.Common.{rules, ◌≤◌, ◌<◌, ◌+◌, false}
use Rattle.spec_http.specs.Connections.{most_fields}
use Rattle.http_request_head.specs.FieldLines.{line_ends}
use Rattle.http_request_head.proofs.Cuts.{is_too_large, is_half}
use Rattle.http_request_head.proofs.reading.look_at_end.Goals as goal

pub returns-then-line_ends : goal.returns-then-line_ends
returns-then-line_ends c =
    let many : most_fields + 1 < line_ends false c.args.bytes.now = search rules in
    λ fields. is_too_large c.args.bytes.now c.requires.none c.requires.unfinished many

pub returns-else-line_ends : goal.returns-else-line_ends
returns-else-line_ends c =
    let few : line_ends false c.args.bytes.now ≤ most_fields + 1 = search rules in
    λ fields. is_half c.args.bytes.now c.requires.limit c.requires.none c.requires.unfinished few
