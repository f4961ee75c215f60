use Rattle.std.proofs.Common.{◌∙◌, ap, refl, inr}
use Rattle.spec_api.specs.Targets.{query_for}
use Rattle.spec_http.specs.Checks.{query_checked}
use Rattle.http_request_head.specs.RequestHeads.{head_seen}
use Rattle.request_parts.specs.RoutesSeen.{route_seen}
use Rattle.http_request_reader.proofs.Checked.{body_opens}
use Rattle.http_request_reader.proofs.checks.check_query.Goals as goal

pub returns-in-Ok-check_body : goal.returns-in-Ok-check_body
returns-in-Ok-check_body c =
    λ stated is.
    body_opens (head_seen c.args.head.now) stated (query_for c.args.method (route_seen c.args.target) c.args.head.now.target.now)
    (record { method = c.args.method; target = c.args.target; query = c.in-Ok.query; body_length = c.in-Ok-check_body.body_length }) c.in-Ok-check_body.body_length c.in-Ok.ensures refl
    (c.in-Ok-check_body.ensures stated (route_seen c.args.target) is)

pub returns : goal.returns
returns c =
    λ stated is.
    inr (ap (query_checked (head_seen c.args.head.now) stated c.args.method (route_seen c.args.target)) c.in-Ok.ensures ∙ c.in-Err-check_body.ensures stated (route_seen c.args.target) is)
