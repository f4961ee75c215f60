-- Heads as HTTP wants them: what their requests ask, and why they are refused.
use Rattle.std.proofs.Common.{◌≡◌, ℕ, List, ◌++◌, length, Bool, true, false, not, cond, nat_lt, ◌&&◌, ◌||◌, ◌==◌, Option, Some, None, is_some, Result, Ok, Err, refl, sym, ap, ◌∙◌}
use Rattle.std.proofs.Math.Bool.{and-false}
use Rattle.spec_api.specs.declared.methods.Method.{Method}
use Rattle.spec_api.specs.declared.refusals.Part.{Part}
use Rattle.spec_api.specs.declared.refusals.Part.TheVariants as part
use Rattle.spec_api.specs.Refusals.{Refusal, bad_request, method_not_allowed, too_large}
use Rattle.spec_api.specs.Targets.{Query, Route, Asked, route, path_of, names_namespace, is_allowed, query_for, longest_body, is_too_long, asked, asked_with, asked_at}
use Rattle.spec_http.specs.Heads.{Head, head_of, stated_length, has_transfer_coding, media_type, needs_length, takes_type, method_named}
use Rattle.spec_http.specs.Checks.{Opening, is_watch, length_or_none, body_checked, query_checked, method_checked, path_checked, length_checked, checked}
use Rattle.spec_http.specs.Connections.{asked_after}
use Rattle.spec_http.specs.Laws.{ProperRequestsAreRead}
use Rattle.spec_http.proofs.Passing.{text_decoded, with_body}

-- a test that both make
both : (b : Bool) (f : Refusal) (r : Result Opening Refusal) (a : Result Asked Refusal) (rest : List ℕ) → asked_after r rest ≡ Some a
    → asked_after (cond b r (Err f)) rest ≡ Some (cond (not b) (Err f) a)
both true f r a rest e = e
both false f r a rest e = refl

both_not : (b : Bool) (f : Refusal) (r : Result Opening Refusal) (a : Result Asked Refusal) (rest : List ℕ) → asked_after r rest ≡ Some a
    → asked_after (cond b (Err f) r) rest ≡ Some (cond b (Err f) a)
both_not true f r a rest e = refl
both_not false f r a rest e = e

-- what HTTP wants of a head, for any head
abbrev pub IsGood : Head → Method → Option ℕ → Type 0
IsGood h m stated =
    (method_named h.method ≡ Some m) × (stated_length h ≡ Some stated) × (needs_length m && not (is_some stated) ≡ false) × (has_transfer_coding h ≡ false)
    × (takes_type m (media_type h) ≡ true) × (h.minor ≡ 1)

-- only the body's length is left to be checked
left_to_check : (h : Head) (m : Method) (stated : Option ℕ) (o : Opening) → IsGood h m stated → o.method ≡ m
    → body_checked h stated o ≡ cond (nat_lt longest_body o.body_length) (Err too_large) (Ok o)
left_to_check h m stated o (named, said, needed, plain, taken, minor) same =
    let version : is_watch o.query.collection.read && h.minor == 0 ≡ false = rw minor (and-false (is_watch o.query.collection.read)) in
    let coding : has_transfer_coding h || (needs_length o.method && not (is_some stated)) ≡ false = rw (plain, same) needed in
    let type : takes_type o.method (media_type h) ≡ true = rw same taken in
    rw (version, coding, type) refl

by_query : (h : Head) (m : Method) (stated : Option ℕ) (r : Route) (body rest : List ℕ) (q : Result Query Part) → IsGood h m stated → length body ≡ length_or_none stated
    → asked_after (query_checked h stated m r q) (body ++ rest) ≡ Some (asked_with m r body q)
by_query h m stated r body rest (Err p) good long = refl
by_query h m stated r body rest (Ok q) good long =
    let o : Opening = record { method = m; route = r; query = q; body_length = length_or_none stated } in
    let size : nat_lt longest_body (length_or_none stated) ≡ is_too_long body = ap (nat_lt longest_body) (sym long) in
    let short : asked_after (cond (nat_lt longest_body (length_or_none stated)) (Err too_large) (Ok o)) (body ++ rest) ≡ Some (cond (nat_lt longest_body (length_or_none stated)) (Err too_large) (asked m r q body)) =
    both_not (nat_lt longest_body (length_or_none stated)) too_large (Ok o) (asked m r q body) (body ++ rest) (with_body o body rest long) in
    ap (λ x. asked_after x (body ++ rest)) (left_to_check h m stated o good refl) ∙ short ∙ ap (λ b. Some (cond b (Err too_large) (asked m r q body))) size

by_route : (h : Head) (m : Method) (stated : Option ℕ) (body rest : List ℕ) (found : Option Route) → IsGood h m stated → length body ≡ length_or_none stated
    → asked_after (path_checked h stated found) (body ++ rest) ≡ Some (asked_at m h.target body found)
by_route h m stated body rest None good long = refl
by_route h m stated body rest (Some r) good long =
    let named : method_checked h stated r (method_named h.method) ≡ cond (is_allowed m r) (query_checked h stated m r (query_for m r h.target)) (Err method_not_allowed) = ap (method_checked h stated r) good.0 in
    let query = by_query h m stated r body rest (query_for m r h.target) good long in
    let allowed = both (is_allowed m r) method_not_allowed (query_checked h stated m r (query_for m r h.target)) (asked_with m r body (query_for m r h.target)) (body ++ rest) query in
    both (names_namespace r) (bad_request part.Path) (method_checked h stated r (method_named h.method))
    (cond (not (is_allowed m r)) (Err method_not_allowed) (asked_with m r body (query_for m r h.target))) (body ++ rest)
    (ap (λ x. asked_after x (body ++ rest)) named ∙ allowed)

pub proper_read : ProperRequestsAreRead
proper_read h m stated body rest ok good long =
    let text = text_decoded h.target ok.target_text in
    let first : checked (head_of h) ≡ path_checked (head_of h) stated (route (path_of h.target)) = ap (length_checked (head_of h)) good.1 in
    ap (λ x. asked_after x (body ++ rest)) first ∙ by_route (head_of h) m stated body rest (route (path_of h.target)) good long
    ∙ ap (λ t. Some (asked_at m t body (route (path_of t)))) (sym text)
