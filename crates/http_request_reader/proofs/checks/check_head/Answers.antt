use Rattle.std.proofs.Common.{rules, ◌≡◌}
use Rattle.spec_http.specs.Heads.{stated_length}
use Rattle.http_request_head.specs.Fields.{IsLength}
use Rattle.http_request_head.specs.RequestHeads.{head_seen}
use Rattle.http_request_head.specs.declared.body_length.BodyLength.TheVariants as kind
use Rattle.http_request_reader.proofs.Checked.{from_path}
use Rattle.http_request_reader.proofs.checks.check_head.Goals as goal

pub returns-in_default : goal.returns-in_default
returns-in_default c =
    let is : IsLength (stated_length (head_seen c.args.head.now)) c.content_length.result = search rules in
    let good : c.content_length.result ≡ kind.Bad → ⊥ = search rules in
    from_path (head_seen c.args.head.now) c.content_length.result c.check_path.result is good c.check_path.ensures
