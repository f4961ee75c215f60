-- Which requests a server can be asked over HTTP, and what it takes them for.
use Rattle.std.specs.Prelude.{◌≡◌, ℕ, List, Bool, true, false, not, ◌&&◌, ◌==◌, nat_lt, nat_le, Option, Result, Ok, Err, if◌then◌else◌}
use Rattle.std.specs.List.{list_all}
use Rattle.std.specs.Option.{option_map_or}
use Rattle.serde_json.specs.Data.{Data, depth}
use Rattle.serde_json.specs.Read.{max_depth}
use Rattle.spec_api.specs.Keys.{Key, is_namespace}
use Rattle.spec_api.specs.Kinds.{has_status}
use Rattle.spec_api.specs.DeleteOptions.{Options}
use Rattle.spec_api.specs.ObjectRequests.{Request, get_object, list_objects, create_object, update_object, update_status, patch_object, delete_object}
use Rattle.spec_api.specs.Refusals.{Refusal, too_large}
use Rattle.spec_api.specs.Targets as targets
use Rattle.spec_api.specs.Targets.{Asked, is_filled, is_too_long}

-- ---- targets

-- a byte that the first line of a request can hold in its target: no blank, and no control character (RFC 9112, Request Target)
abbrev pub is_visible : ℕ → Bool
is_visible b = nat_lt 32 b && not (b == 127)

-- a byte of a path: the query begins with a `?` (RFC 3986, Path)
abbrev pub is_of_path : ℕ → Bool
is_of_path b = is_visible b && not (b == 63)

-- a byte of a segment: a path is cut at each `/`
abbrev pub is_of_segment : ℕ → Bool
is_of_segment b = is_of_path b && not (b == 47)

-- a target with no query, which the first line of a request can hold
abbrev pub IsPath : List ℕ → Type 0
IsPath t = list_all is_of_path t ≡ true

-- a text that can be a segment of a path
abbrev pub is_segment : List ℕ → Bool
is_segment t = is_filled t && list_all is_of_segment t

-- whether a path can name the object: its namespace is as it has to be, and its name can be a segment
abbrev pub is_address : Key → Bool
is_address k = is_namespace k.namespace && is_segment k.name

-- ---- bodies

-- whether data nests no deeper than JSON is read
abbrev pub is_shallow : Data → Bool
is_shallow d = nat_le (depth d) max_depth

-- a text that a delete names is not empty: an empty one would name nothing
abbrev pub is_named : Option (List ℕ) → Bool
is_named t = option_map_or is_filled t true

abbrev pub are_named : Options → Bool
are_named o = is_named o.uid && is_named o.version

-- ---- requests

-- whether a request can be asked over HTTP: it is of one object, which a path can name, or of its status, where its kind has one, and its body can be read
abbrev pub can_be_told : Request → Bool
can_be_told (get_object k) = is_address k
can_be_told (list_objects v) = false
can_be_told (create_object kind namespace d) = is_namespace namespace && is_shallow d
can_be_told (update_object k d) = is_address k && is_shallow d
can_be_told (update_status k d) = is_address k && has_status k.kind && is_shallow d
can_be_told (patch_object k d) = is_address k && is_shallow d
can_be_told (delete_object k o) = is_address k && are_named o

-- what a server takes a request for that has this body: for the request, unless the body is longer than it may be
abbrev pub taken : Request → List ℕ → Result Asked Refusal
taken q body = if is_too_long body then Err too_large else Ok (targets.request q)
