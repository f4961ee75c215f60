-- Requests, from what their checks say.
use Rattle.std.proofs.Common.{◌≡◌, ℕ, List, Result, ap, sym, ◌∙◌}
use Rattle.spec_api.specs.declared.methods.Method.{Method}
use Rattle.spec_api.specs.Refusals.{Refusal}
use Rattle.spec_api.specs.Targets.{Route, read_request, decoded}
use Rattle.request_parts.proofs.Wholes.{checks_first}
use Rattle.request_parts.specs.Checked.{asked_after, checked_at}

-- what is asked is what the checks of its decoded target leave
pub checked-asks : (method : Method) (target text decoded_text : List ℕ) (checked : Result Route Refusal)
    → decoded_text ≡ decoded target → checked ≡ checked_at method decoded_text → read_request method target text ≡ asked_after method decoded_text text checked
checked-asks method target text decoded_text checked same is =
    checks_first method target text ∙ ap (λ t. asked_after method t text (checked_at method t)) (sym same) ∙ ap (asked_after method decoded_text text) (sym is)
