-- The checks of a head, one after another.
use Rattle.std.proofs.Common.{◌≡◌, ℕ, Bool, true, false, not, cond, Option, Some, None, Result, Ok, Err, inl, inr, refl, sym, ap, ◌∙◌, subst}
use Rattle.std.specs.Prelude.{unwrap_or}
use Rattle.spec_api.specs.declared.methods.Method.{Method}
use Rattle.spec_api.specs.declared.methods.Method.TheVariants.{Get}
use Rattle.spec_api.specs.declared.refusals.Part.{Part}
use Rattle.spec_api.specs.declared.refusals.Part.TheVariants as part
use Rattle.spec_api.specs.Refusals.{Refusal, bad_request, no_such_path, method_not_allowed}
use Rattle.spec_api.specs.Targets.{Route, route, path_of, names_namespace, is_allowed, query_for}
use Rattle.spec_api.specs.Targets as queries
use Rattle.spec_http.specs.Heads.{Head, stated_length, method_named}
use Rattle.spec_http.specs.Checks as words
use Rattle.spec_http.specs.Checks.{length_or_none, body_checked, query_checked, method_checked, path_checked, length_checked, checked}
use Rattle.object_keys.specs.Faults.{refusal_of}
use Rattle.object_keys.specs.declared.fault.Fault.{Fault}
use Rattle.http_request_head.specs.declared.body_length.BodyLength.{BodyLength}
use Rattle.http_request_head.specs.declared.body_length.BodyLength.TheVariants as kind
use Rattle.http_request_head.specs.Fields.{IsLength}
use Rattle.request_parts.specs.Checked.{checked_route}
use Rattle.request_parts.specs.Collected.{Gives}
use Rattle.request_parts.specs.Faults.{query_fault}
use Rattle.request_parts.specs.Queried.{query_seen}
use Rattle.request_parts.specs.declared.faults.QueryFault.{QueryFault}
use Rattle.request_parts.specs.declared.faults.QueryFault.TheVariants as query
use Rattle.http_request_reader.specs.declared.opening.CheckedHead.{CheckedHead}
use Rattle.http_request_reader.specs.Openings.{Opens, ChecksBody, opening_seen}

-- what is no bad length is none, or one
stated_is : (s : Option (Option ℕ)) (length : BodyLength) → IsLength s length → (length ≡ kind.Bad → ⊥) → (stated : Option ℕ) × (s ≡ Some stated)
stated_is s kind.Missing is good = (None, is)
stated_is s kind.Bad is good = absurd (good refl)
stated_is s (kind.Stated n) is good = (Some n, is.0)
stated_is s kind.TooLong is good = (Some is.0, is.1)

pub from_path : (h : Head) (length : BodyLength) (r : Result CheckedHead Fault) → IsLength (stated_length h) length → (length ≡ kind.Bad → ⊥)
    → ((stated : Option ℕ) → IsLength (Some stated) length → Opens (path_checked h stated (route (path_of h.target))) r) → Opens (checked h) r
from_path h length r is good opens =
    let stated = stated_is (stated_length h) length is good in
    subst (λ s. Opens (length_checked h s) r) (sym stated.1) (opens stated.0 (subst (λ s. IsLength s length) stated.1 is))

-- ---- the path, the namespace and the method

abbrev one_check : Bool → Route → Result Route Refusal
one_check n r = cond (not n) (Err (bad_request part.Path)) (Ok r)

abbrev two_checks : Bool → Bool → Route → Result Route Refusal
two_checks n a r = cond (not n) (Err (bad_request part.Path)) (cond (not a) (Err method_not_allowed) (Ok r))

abbrev after_path : Bool → Result words.Opening Refusal → Result words.Opening Refusal
after_path n x = cond n x (Err (bad_request part.Path))

abbrev after_method : Bool → Result words.Opening Refusal → Result words.Opening Refusal
after_method a x = cond a x (Err method_not_allowed)

one_refused : (n : Bool) (r : Route) (f : Refusal) (x : Result words.Opening Refusal) → Err f ≡ one_check n r → after_path n x ≡ Err f
one_refused true r f x e = absurd (cc)
one_refused false r f x e = let same : f ≡ bad_request part.Path = cc in ap Err (sym same)

two_refused : (n a : Bool) (r : Route) (f : Refusal) (x : Result words.Opening Refusal) → Err f ≡ two_checks n a r → after_path n (after_method a x) ≡ Err f
two_refused true true r f x e = absurd (cc)
two_refused true false r f x e = let same : f ≡ method_not_allowed = cc in ap Err (sym same)
two_refused false a r f x e = let same : f ≡ bad_request part.Path = cc in ap Err (sym same)

one_passed : (n : Bool) (s r : Route) (x : Result words.Opening Refusal) → Ok r ≡ one_check n s → after_path n x ≡ x
one_passed true s r x e = refl
one_passed false s r x e = absurd (cc)

two_passed : (n a : Bool) (s r : Route) (x : Result words.Opening Refusal) → Ok r ≡ two_checks n a s → (s ≡ r) × (after_path n (after_method a x) ≡ x)
two_passed true true s r x e = (cc, refl)
two_passed true false s r x e = absurd (cc)
two_passed false a s r x e = absurd (cc)

no_path : (f : Refusal) (a b : Result Route Refusal) → a ≡ b → a ≡ Err f → b ≡ Err no_such_path → no_such_path ≡ f
no_path f a b e is none = cc

no_route : (r : Route) (a b : Result Route Refusal) → a ≡ b → a ≡ Ok r → b ≡ Err no_such_path → ⊥
no_route r a b e is none = cc

pub path_refused : (h : Head) (stated : Option ℕ) (found : Option Route) (named : Option Method) (f : Refusal) → method_named h.method ≡ named
    → Err f ≡ checked_route (unwrap_or named Get) found → path_checked h stated found ≡ Err f
path_refused h stated None named f is e = ap Err (no_path f (Err f) (Err no_such_path) e refl refl)
path_refused h stated (Some r) None f is e = one_refused (names_namespace r) r f (method_checked h stated r (method_named h.method)) e
path_refused h stated (Some r) (Some m) f is e =
    ap (λ k. after_path (names_namespace r) (method_checked h stated r k)) is
    ∙ two_refused (names_namespace r) (is_allowed m r) r f (query_checked h stated m r (query_for m r h.target)) e

pub no_method : (h : Head) (stated : Option ℕ) (found : Option Route) (r : Route) → method_named h.method ≡ None
    → Ok r ≡ checked_route Get found → path_checked h stated found ≡ Err method_not_allowed
no_method h stated None r is e = absurd (no_route r (Ok r) (Err no_such_path) e refl refl)
no_method h stated (Some s) r is e =
    ap (λ k. after_path (names_namespace s) (method_checked h stated s k)) is ∙ one_passed (names_namespace s) s r (Err method_not_allowed) e

pub path_passed : (h : Head) (stated : Option ℕ) (found : Option Route) (m : Method) (r : Route) → method_named h.method ≡ Some m
    → Ok r ≡ checked_route m found → path_checked h stated found ≡ query_checked h stated m r (query_for m r h.target)
path_passed h stated None m r is e = absurd (no_route r (Ok r) (Err no_such_path) e refl refl)
path_passed h stated (Some s) m r is e =
    let passes = two_passed (names_namespace s) (is_allowed m s) s r (query_checked h stated m s (query_for m s h.target)) e in
    ap (λ k. after_path (names_namespace s) (method_checked h stated s k)) is ∙ passes.1 ∙ ap (λ x. query_checked h stated m x (query_for m x h.target)) passes.0

-- ---- the query

pub query_refused : (h : Head) (stated : Option ℕ) (m : Method) (r : Route) (q : Result queries.Query Part) (e : QueryFault) (f : Fault) → Gives query_seen q (Err e)
    → f ≡ query_fault e → Opens (query_checked h stated m r q) (Err f)
query_refused h stated m r q query.BadQuery f gives is = inr (ap (query_checked h stated m r) gives ∙ ap (λ x. Err (refusal_of x)) (sym is))
query_refused h stated m r q query.BadToken f gives is = inr (ap (query_checked h stated m r) gives ∙ ap (λ x. Err (refusal_of x)) (sym is))
query_refused h stated m r q query.NoMemory f gives is = inl is

pub body_opens : (h : Head) (stated : Option ℕ) (q : Result queries.Query Part) (o : CheckedHead) (n : ℕ) → q ≡ Ok (query_seen o.query) → o.body_length ≡ n
    → ChecksBody h stated (record { method = o.method; route = (opening_seen o).route; query = query_seen o.query; body_length = length_or_none stated }) (Ok n)
    → query_checked h stated o.method (opening_seen o).route q ≡ Ok (opening_seen o)
body_opens h stated q o n is same checks =
    ap (query_checked h stated o.method (opening_seen o).route) is ∙ checks.0
    ∙ ap (λ l. Ok (record { method = o.method; route = (opening_seen o).route; query = query_seen o.query; body_length = l })) (checks.1 ∙ sym same)
