use Rattle.std.proofs.Common.{Ok, Err, inr, ap, sym, subst, ◌∙◌}
use Rattle.request_parts.specs.Seen.{check_refusal}
use Rattle.request_parts.specs.RoutesSeen.{route_seen}
use Rattle.request_decoding.specs.Asked.{Asks}
use Rattle.request_decoding.proofs.Checks.{checked-asks}
use Rattle.request_decoding.proofs.asking.read_request.Goals as goal

pub returns-in-Ok : goal.returns-in-Ok
returns-in-Ok c =
    subst (λ asked. Asks asked c.ask_with.result)
    (sym (checked-asks c.args.method c.args.target.now c.args.body.now c.as_str-target.result.now (Ok (route_seen c.in-Ok.named)) (c.as_str-target.ensures.value ∙ c.in_ok-decoded.ensures.text) c.in-Ok.ensures))
    c.ask_with.ensures

pub returns : goal.returns
returns c =
    inr
    (checked-asks c.args.method c.args.target.now c.args.body.now c.as_str-target.result.now (Err (check_refusal c.in-Err.fault)) (c.as_str-target.ensures.value ∙ c.in_ok-decoded.ensures.text) c.in-Err.ensures
    ∙ ap Err (sym c.from.ensures))
