-- What the code's results say, as routes, data and refusals.
use Rattle.std.specs.Prelude.{◌≡◌, ℕ, List, Result, Ok, Err}
use Rattle.serde_json.specs.View.{view}
use Rattle.serde_json.specs.declared.value.Value.{Value}
use Rattle.spec_api.specs.declared.refusals.Part.TheVariants as part
use Rattle.spec_api.specs.Refusals.{Refusal, bad_request, no_such_path, method_not_allowed}
use Rattle.spec_api.specs.Targets.{Route, body_of}
use Rattle.request_parts.specs.RoutesSeen.{route_seen}
use Rattle.request_parts.specs.declared.targets.Target.{Target}
use Rattle.request_parts.specs.declared.check.CheckFault.{CheckFault}
use Rattle.request_parts.specs.declared.check.CheckFault.TheVariants.{NoSuchPath, BadNamespace, MethodNotAllowed}
use Rattle.request_parts.specs.declared.body.BodyFault.{BodyFault}
use Rattle.request_parts.specs.declared.body.BodyFault.TheVariants.{NotJson, NoMemory}

-- the refusal that a fault of the checks is
abbrev pub check_refusal : CheckFault → Refusal
check_refusal NoSuchPath = no_such_path
check_refusal BadNamespace = bad_request part.Path
check_refusal MethodNotAllowed = method_not_allowed

abbrev pub checked_seen : Result Target CheckFault → Result Route Refusal
checked_seen (Ok t) = Ok (route_seen t)
checked_seen (Err e) = Err (check_refusal e)

-- the result of reading a body is the body's, but that memory may run out
abbrev pub ReadsBody : List ℕ → Result Value BodyFault → Type 0
ReadsBody text (Ok v) = body_of text ≡ Ok (view v)
ReadsBody text (Err NotJson) = body_of text ≡ Err (bad_request part.Body)
ReadsBody text (Err NoMemory) = Unit {0}
