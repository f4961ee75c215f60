-- The parts of a request's reading make the whole.
use Rattle.std.proofs.Common.{◌≡◌, ℕ, List, Bool, true, false, not, Option, Some, None, Ok, Err, if◌then◌else◌, refl}
use Rattle.spec_api.specs.declared.methods.Method.{Method}
use Rattle.spec_api.specs.declared.refusals.Part.TheVariants as part
use Rattle.spec_api.specs.Refusals.{bad_request, method_not_allowed}
use Rattle.spec_api.specs.Targets.{Route, route, path_of, names_namespace, is_allowed, query_for, asked_with, asked_at, decoded}
use Rattle.request_parts.specs.Checked.{ChecksComeFirst, checked_route, asked_after}

checks : (method : Method) (target text : List ℕ) (o : Option Route) → asked_at method target text o ≡ asked_after method target text (checked_route method o)
checks method target text None = refl
checks method target text (Some r) = by (names_namespace r) (is_allowed method r)
  where
    by : (n a : Bool)
        → (if not n then Err (bad_request part.Path) else (if not a then Err method_not_allowed else asked_with method r text (query_for method r target)))
        ≡ asked_after method target text (if not n then Err (bad_request part.Path) else (if not a then Err method_not_allowed else Ok r))
    by false a = refl
    by true false = refl
    by true true = refl

pub checks_first : ChecksComeFirst
checks_first method target text = checks method (decoded target) text (route (path_of (decoded target)))
