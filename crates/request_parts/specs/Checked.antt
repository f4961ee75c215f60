-- A request's checks before its query, and what they leave to the query and the body.
use Rattle.std.specs.Prelude.{◌≡◌, ℕ, List, not, Option, Some, None, Result, Ok, Err, if◌then◌else◌}
use Rattle.spec_api.specs.declared.methods.Method.{Method}
use Rattle.spec_api.specs.declared.refusals.Part.TheVariants as part
use Rattle.spec_api.specs.Refusals.{Refusal, bad_request, no_such_path, method_not_allowed}
use Rattle.spec_api.specs.Targets.{Asked, Route, route, path_of, names_namespace, is_allowed, query_for, asked_with, decoded, read_request}

abbrev pub checked_route : Method → Option Route → Result Route Refusal
checked_route method None = Err no_such_path
checked_route method (Some r) =
    if not (names_namespace r) then Err (bad_request part.Path)
    else (if not (is_allowed method r) then Err method_not_allowed else Ok r)

-- the route of a decoded target, or the first refusal: of the path, its namespace, the method
abbrev pub checked_at : Method → List ℕ → Result Route Refusal
checked_at method target = checked_route method (route (path_of target))

-- what is asked of a route that passed the checks
abbrev pub asked_after : Method → List ℕ → List ℕ → Result Route Refusal → Result Asked Refusal
asked_after method target text (Err f) = Err f
asked_after method target text (Ok r) = asked_with method r text (query_for method r target)

-- the query is read after every check of the target, and the body after the query
abbrev pub ChecksComeFirst : Type 0
ChecksComeFirst =
    (method : Method) (target text : List ℕ) → read_request method target text ≡ asked_after method (decoded target) text (checked_at method (decoded target))
