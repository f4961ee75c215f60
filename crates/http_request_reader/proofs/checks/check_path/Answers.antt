use Rattle.std.proofs.Common.{rules, ◌≡◌, ◌∙◌, Some, None, Ok, Err, inr, ap, sym, subst}
use Rattle.std.specs.Prelude.{unwrap_or}
use Rattle.spec_api.specs.declared.methods.Method.TheVariants.{Get}
use Rattle.spec_api.specs.Targets.{route, path_of}
use Rattle.spec_http.specs.Heads.{method_named}
use Rattle.http_request_head.specs.RequestHeads.{head_seen}
use Rattle.request_parts.specs.Checked.{checked_at}
use Rattle.request_parts.specs.Seen.{check_refusal}
use Rattle.request_parts.specs.RoutesSeen.{route_seen}
use Rattle.http_request_reader.specs.Openings.{Opens}
use Rattle.http_request_reader.proofs.Checked.{path_refused, no_method, path_passed}
use Rattle.http_request_reader.proofs.checks.check_path.Goals as goal

pub returns-in-Err : goal.returns-in-Err
returns-in-Err c =
    let refused : Err (check_refusal c.in-Err.fault) ≡ checked_at (unwrap_or c.method_named-named.result Get) c.args.head.now.target.now = search rules in
    λ stated is.
    inr
    (path_refused (head_seen c.args.head.now) stated (route (path_of c.args.head.now.target.now)) c.method_named-named.result (check_refusal c.in-Err.fault) (sym c.method_named-named.ensures) refused
    ∙ ap Err (sym c.from.ensures))

pub returns-in-Some : goal.returns-in-Some
returns-in-Some c =
    let named : method_named c.args.head.now.method.now ≡ Some c.in-Some.method = search rules in
    let passes : Ok (route_seen c.in-Ok.target) ≡ checked_at c.in-Some.method c.args.head.now.target.now = search rules in
    λ stated is.
    subst (λ x. Opens x c.check_query.result)
    (sym (path_passed (head_seen c.args.head.now) stated (route (path_of c.args.head.now.target.now)) c.in-Some.method (route_seen c.in-Ok.target) named passes))
    (c.check_query.ensures stated is)

pub returns-in-None : goal.returns-in-None
returns-in-None c =
    let named : method_named c.args.head.now.method.now ≡ None = search rules in
    let passes : Ok (route_seen c.in-Ok.target) ≡ checked_at Get c.args.head.now.target.now = search rules in
    λ stated is. inr (no_method (head_seen c.args.head.now) stated (route (path_of c.args.head.now.target.now)) (route_seen c.in-Ok.target) named passes)
