use Rattle.std.proofs.Common.{rules, ◌≤◌, length}
use Rattle.spec_http.specs.Connections.{longest_head}
use Rattle.http_request_head.proofs.Wholes.{too_long}
use Rattle.http_request_head.proofs.reading.find_head.Goals as goal

pub returns-then-bytes-lt-LONGEST_HEAD : goal.returns-then-bytes-lt-LONGEST_HEAD
returns-then-bytes-lt-LONGEST_HEAD c = c.look_at_end.ensures c.look.new.fields

pub returns-else-bytes-lt-LONGEST_HEAD : goal.returns-else-bytes-lt-LONGEST_HEAD
returns-else-bytes-lt-LONGEST_HEAD c =
    let long : longest_head ≤ length c.args.bytes.now = search rules in
    too_long c.args.bytes.now long c.requires.limit (c.look.ensures.none c.in-None.is)
