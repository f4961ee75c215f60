-- What the head of a request asks, but for its body, or why it is refused.
use Rattle.std.specs.Prelude.{ℕ, Bool, true, false, not, ◌&&◌, ◌||◌, nat_lt, Option, Some, None, is_some, Result, Ok, Err, if◌then◌else◌, ◌==◌}
use Rattle.spec_api.specs.declared.methods.Method.{Method}
use Rattle.spec_api.specs.declared.refusals.Part.{Part}
use Rattle.spec_api.specs.declared.refusals.Part.TheVariants as part
use Rattle.spec_api.specs.ListQueries as collections
use Rattle.spec_api.specs.Refusals.{Refusal, bad_request, no_such_path, method_not_allowed, length_required, too_large, unsupported_media_type}
use Rattle.spec_api.specs.Targets.{Query, Route, route, path_of, names_namespace, is_allowed, query_for, longest_body}
use Rattle.spec_http.specs.Heads.{Head, stated_length, has_transfer_coding, media_type, needs_length, takes_type, method_named}

-- a method, a route, a query, and how many bytes the body has
pub record Opening : Type 0 where
  pub method : Method
  pub route : Route
  pub query : Query
  pub body_length : ℕ

-- whether a watch is asked for
abbrev pub is_watch : collections.Read → Bool
is_watch (collections.list o) = false
is_watch (collections.watch o) = true

-- no length stands for an empty body (RFC 9112, Message Body Length)
abbrev pub length_or_none : Option ℕ → ℕ
length_or_none None = 0
length_or_none (Some n) = n

-- of a request whose query is read: a watch needs chunks, so HTTP/1.1 (RFC 9112, Transfer-Encoding); the body needs a length, with no
-- transfer coding (RFC 9112, Message Body Length), within the limit, and its type
abbrev pub body_checked : Head → Option ℕ → Opening → Result Opening Refusal
body_checked h stated o =
    if is_watch o.query.collection.read && h.minor == 0 then Err (bad_request part.Head)
    else
    (if has_transfer_coding h || (needs_length o.method && not (is_some stated)) then Err length_required
    else
    (if nat_lt longest_body o.body_length then Err too_large
    else (if takes_type o.method (media_type h) then Ok o else Err unsupported_media_type)))

abbrev pub query_checked : Head → Option ℕ → Method → Route → Result Query Part → Result Opening Refusal
query_checked h stated m r (Err p) = Err (bad_request p)
query_checked h stated m r (Ok q) = body_checked h stated (record { method = m; route = r; query = q; body_length = length_or_none stated })

abbrev pub method_checked : Head → Option ℕ → Route → Option Method → Result Opening Refusal
method_checked h stated r None = Err method_not_allowed
method_checked h stated r (Some m) = if is_allowed m r then query_checked h stated m r (query_for m r h.target) else Err method_not_allowed

abbrev pub path_checked : Head → Option ℕ → Option Route → Result Opening Refusal
path_checked h stated None = Err no_such_path
path_checked h stated (Some r) = if names_namespace r then method_checked h stated r (method_named h.method) else Err (bad_request part.Path)

abbrev pub length_checked : Head → Option (Option ℕ) → Result Opening Refusal
length_checked h None = Err (bad_request part.Head)
length_checked h (Some stated) = path_checked h stated (route (path_of h.target))

-- what a head asks, but for its body, or the first refusal: of the length that it states, the path, its namespace, the method, the query, the
-- version, a length that is missing, the body's length, its media type
abbrev pub checked : Head → Result Opening Refusal
checked h = length_checked h (stated_length h)
