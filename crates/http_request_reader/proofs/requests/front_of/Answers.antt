use Rattle.std.proofs.Common.{rules, ◌≤◌, length, sym, take_all}
use Rattle.spec_http.specs.Connections.{longest_head}
use Rattle.http_request_reader.proofs.requests.front_of.Goals as goal

pub returns-else-bytes-gt-LONGEST_HEAD : goal.returns-else-bytes-gt-LONGEST_HEAD
returns-else-bytes-gt-LONGEST_HEAD c =
    let short : length c.args.bytes.now ≤ longest_head = search rules in
    sym (take_all longest_head c.args.bytes.now short)
