-- A head whose checks pass has a body of the length that it states.
use Rattle.std.proofs.Common.{◌≡◌, ℕ, Bool, true, false, cond, Option, Some, None, Result, Ok, Err, refl, sym, ap, ◌∙◌}
use Rattle.spec_api.specs.declared.methods.Method.{Method}
use Rattle.spec_api.specs.declared.refusals.Part.{Part}
use Rattle.spec_api.specs.declared.refusals.Part.TheVariants as part
use Rattle.spec_api.specs.Refusals.{Refusal, bad_request, method_not_allowed, length_required, too_large, unsupported_media_type}
use Rattle.spec_api.specs.Targets.{Query, Route, route, path_of, names_namespace, is_allowed, query_for}
use Rattle.spec_http.specs.Heads.{Head, stated_length, method_named}
use Rattle.spec_http.specs.Checks.{Opening, length_or_none, body_checked, query_checked, method_checked, path_checked, length_checked, checked}

unless : (b : Bool) (f : Refusal) (r : Result Opening Refusal) (o : Opening) → cond b (Err f) r ≡ Ok o → r ≡ Ok o
unless true f r o e = absurd (cc)
unless false f r o e = e

where_so : (b : Bool) (f : Refusal) (r : Result Opening Refusal) (o : Opening) → cond b r (Err f) ≡ Ok o → r ≡ Ok o
where_so true f r o e = e
where_so false f r o e = absurd (cc)

same_opening : (r : Result Opening Refusal) (a o : Opening) → r ≡ Ok a → r ≡ Ok o → a ≡ o
same_opening r a o is e = cc

of_body : (h : Head) (stated : Option ℕ) (a o : Opening) → body_checked h stated a ≡ Ok o → a ≡ o
of_body h stated a o e =
    let version = unless _ (bad_request part.Head) _ o e in
    let coding = unless _ length_required _ o version in
    let size = unless _ too_large _ o coding in
    same_opening (Ok a) a o refl (where_so _ unsupported_media_type _ o size)

of_query : (h : Head) (stated : Option ℕ) (m : Method) (r : Route) (q : Result Query Part) (o : Opening) → query_checked h stated m r q ≡ Ok o → o.body_length ≡ length_or_none stated
of_query h stated m r (Err p) o e = absurd (cc)
of_query h stated m r (Ok q) o e =
    let opening : Opening = record { method = m; route = r; query = q; body_length = length_or_none stated } in
    ap (λ x. x.body_length) (sym (of_body h stated opening o e))

of_method : (h : Head) (stated : Option ℕ) (r : Route) (named : Option Method) (o : Opening) → method_checked h stated r named ≡ Ok o → o.body_length ≡ length_or_none stated
of_method h stated r None o e = absurd (cc)
of_method h stated r (Some m) o e =
    of_query h stated m r (query_for m r h.target) o (where_so (is_allowed m r) method_not_allowed (query_checked h stated m r (query_for m r h.target)) o e)

of_path : (h : Head) (stated : Option ℕ) (found : Option Route) (o : Opening) → path_checked h stated found ≡ Ok o → o.body_length ≡ length_or_none stated
of_path h stated None o e = absurd (cc)
of_path h stated (Some r) o e =
    of_method h stated r (method_named h.method) o (where_so (names_namespace r) (bad_request part.Path) (method_checked h stated r (method_named h.method)) o e)

pub body_stated : (h : Head) (stated : Option ℕ) (o : Opening) → stated_length h ≡ Some stated → checked h ≡ Ok o → o.body_length ≡ length_or_none stated
body_stated h stated o said e = of_path h stated (route (path_of h.target)) o (ap (length_checked h) (sym said) ∙ e)
