use Rattle.std.proofs.Common.{rules, ◌≡◌, map}
use Rattle.http_request_head.specs.Fields.{field_seen}
use Rattle.http_client.proofs.Framings.{by_chunks}
use Rattle.http_client.proofs.framing.framing_of.Goals as goal

pub returns-then-eq_ignore_ascii_case : goal.returns-then-eq_ignore_ascii_case
returns-then-eq_ignore_ascii_case c =
    let one : c.count.result ≡ 1 = search rules in
    by_chunks c.args.most (map field_seen c.args.fields.now) c.in-Some.coding.now c.in-Some.ensures.0 c.count.result c.eq_ignore_ascii_case.result c.in-Some.ensures.1 c.count.ensures one (search rules)
    c.if-eq_ignore_ascii_case.true
