-- What heads whose checks pass ask with their bodies.
use Rattle.std.proofs.Common.{◌≡◌, ◌≤◌, ℕ, List, ◌++◌, take, length, Bool, true, false, cond, nat_lt, Option, Some, None, Result, Ok, Err, refl, sym, ap, subst, ◌∙◌, arith, length-append}
use Rattle.std.proofs.lemmas.Bool.{le-ltb}
use Rattle.std.proofs.lemmas.Str.{is_utf8-from_IsUtf8}
use Rattle.std.proofs.Math.Seq.{take-append_seam}
use Rattle.std.specs.Str.{IsUtf8}
use Rattle.std.specs.Str.Lossy.{utf8_lossy}
use Rattle.spec_api.specs.declared.methods.Method.{Method}
use Rattle.spec_api.specs.declared.refusals.Part.{Part}
use Rattle.spec_api.specs.Refusals.{Refusal, bad_request, method_not_allowed, length_required, too_large, unsupported_media_type}
use Rattle.spec_api.specs.declared.refusals.Part.TheVariants as part
use Rattle.spec_api.specs.Targets.{Query, Route, route, path_of, names_namespace, is_allowed, query_for, longest_body, is_too_long, asked, asked_at, decoded, read_request}
use Rattle.spec_http.specs.Heads.{Head, head_of, stated_length, method_named}
use Rattle.spec_http.specs.Checks.{Opening, length_or_none, body_checked, query_checked, method_checked, path_checked, length_checked}
use Rattle.spec_http.specs.Connections.{asked_with_body}
use Rattle.spec_http.specs.Laws.{RequestsAreRead}

-- a text is read as it is
pub text_decoded : (t : List ℕ) → IsUtf8 t → decoded t ≡ t
text_decoded t text = ap (λ v. cond v t (utf8_lossy t)) (is_utf8-from_IsUtf8 t text)

-- the body that is there is the one that is asked with
pub with_body : (o : Opening) (body rest : List ℕ) → length body ≡ o.body_length → asked_with_body o (body ++ rest) ≡ Some (asked o.method o.route o.query body)
with_body o body rest long =
    let least : o.body_length ≤ length (body ++ rest) = omega (arith, long, length-append body rest) in
    let front : take o.body_length (body ++ rest) ≡ body = ap (λ n. take n (body ++ rest)) (sym long) ∙ take-append_seam body rest in
    rw (le-ltb (length (body ++ rest)) o.body_length least) (ap (λ b. Some (asked o.method o.route o.query b)) front)

-- ---- checks that all pass

unless : (b : Bool) (f : Refusal) (r : Result Opening Refusal) (o : Opening) → cond b (Err f) r ≡ Ok o → (b ≡ false) × (r ≡ Ok o)
unless true f r o e = absurd (cc)
unless false f r o e = (refl, e)

where_so : (b : Bool) (f : Refusal) (r : Result Opening Refusal) (o : Opening) → cond b r (Err f) ≡ Ok o → (b ≡ true) × (r ≡ Ok o)
where_so true f r o e = (refl, e)
where_so false f r o e = absurd (cc)

same_opening : (r : Result Opening Refusal) (a o : Opening) → r ≡ Ok a → r ≡ Ok o → a ≡ o
same_opening r a o is e = cc

body_passed : (h : Head) (stated : Option ℕ) (a o : Opening) → body_checked h stated a ≡ Ok o → (nat_lt longest_body a.body_length ≡ false) × (a ≡ o)
body_passed h stated a o e =
    let version = unless _ (bad_request part.Head) _ o e in
    let coding = unless _ length_required _ o version.1 in
    let size = unless _ too_large _ o coding.1 in
    let type = where_so _ unsupported_media_type _ o size.1 in
    (size.0, same_opening (Ok a) a o refl type.1)

-- what an opening says of what it was made of
abbrev pub Passed : Head → Method → Route → Opening → Type 0
Passed h m r o =
    (names_namespace r ≡ true) × (is_allowed m r ≡ true) × (query_for m r h.target ≡ Ok o.query) × (nat_lt longest_body o.body_length ≡ false) × (m ≡ o.method) × (r ≡ o.route)

query_passed : (h : Head) (stated : Option ℕ) (m : Method) (r : Route) (q : Result Query Part) (o : Opening) → query_checked h stated m r q ≡ Ok o
    → (q ≡ Ok o.query) × (nat_lt longest_body o.body_length ≡ false) × (m ≡ o.method) × (r ≡ o.route)
query_passed h stated m r (Err p) o e = absurd (cc)
query_passed h stated m r (Ok q) o e =
    let opening : Opening = record { method = m; route = r; query = q; body_length = length_or_none stated } in
    let passes = body_passed h stated opening o e in
    (ap (λ x. Ok x.query) passes.1, subst (λ x. nat_lt longest_body x.body_length ≡ false) passes.1 passes.0, ap (λ x. x.method) passes.1, ap (λ x. x.route) passes.1)

method_passed : (h : Head) (stated : Option ℕ) (r : Route) (named : Option Method) (o : Opening) → names_namespace r ≡ true → method_checked h stated r named ≡ Ok o
    → (named ≡ Some o.method) × (r ≡ o.route) × Passed h o.method o.route o
method_passed h stated r None o ns e = absurd (cc)
method_passed h stated r (Some m) o ns e =
    let allowed = where_so (is_allowed m r) method_not_allowed (query_checked h stated m r (query_for m r h.target)) o e in
    let passes = query_passed h stated m r (query_for m r h.target) o allowed.1 in
    let all : Passed h m r o = (ns, allowed.0, passes.0, passes.1, passes.2, passes.3) in
    (ap Some passes.2, passes.3, subst (λ x. Passed h x o.route o) passes.2 (subst (λ x. Passed h m x o) passes.3 all))

path_passed : (h : Head) (stated : Option ℕ) (found : Option Route) (o : Opening) → path_checked h stated found ≡ Ok o
    → (found ≡ Some o.route) × (method_named h.method ≡ Some o.method) × Passed h o.method o.route o
path_passed h stated None o e = absurd (cc)
path_passed h stated (Some r) o e =
    let ns = where_so (names_namespace r) (bad_request part.Path) (method_checked h stated r (method_named h.method)) o e in
    let passes = method_passed h stated r (method_named h.method) o ns.0 ns.1 in
    (ap Some passes.1, passes.0, passes.2)

length_passed : (h : Head) (stated : Option (Option ℕ)) (o : Opening) → length_checked h stated ≡ Ok o
    → (route (path_of h.target) ≡ Some o.route) × (method_named h.method ≡ Some o.method) × Passed h o.method o.route o
length_passed h None o e = absurd (cc)
length_passed h (Some stated) o e = path_passed h stated (route (path_of h.target)) o e

read_at : (h : Head) (o : Opening) (body : List ℕ) (found : Option Route) → found ≡ Some o.route → Passed h o.method o.route o → length body ≡ o.body_length
    → asked_at o.method h.target body found ≡ asked o.method o.route o.query body
read_at h o body found e passes long =
    let short : is_too_long body ≡ false = ap (nat_lt longest_body) long ∙ passes.3 in
    rw (e, passes.0, passes.1, passes.2, short) refl

pub requests_read : RequestsAreRead
requests_read h o body rest ok e long =
    let passes = length_passed (head_of h) (stated_length (head_of h)) o e in
    let text : decoded h.target ≡ h.target = text_decoded h.target ok.target_text in
    let there : asked_at o.method h.target body (route (path_of h.target)) ≡ asked o.method o.route o.query body = read_at (head_of h) o body (route (path_of h.target)) passes.0 passes.2 long in
    let read : read_request o.method h.target body ≡ asked o.method o.route o.query body = ap (λ t. asked_at o.method t body (route (path_of t))) text ∙ there in
    (passes.1, with_body o body rest long ∙ ap Some (sym read))
