-- What a method, a target and a body ask for.
use Rattle.std.specs.Prelude.{ℕ, List, [], ◌∷◌, ◌++◌, Bool, true, false, not, ◌&&◌, length, Option, Some, None, is_some, Result, Ok, Err, ok_or, codes, nat_lt, if◌then◌else◌, option_and_then, option_map, ◌==◌}
use Rattle.std.specs.Option.{option_map_or}
use Rattle.std.specs.Result.{result_map_both, result_flatten}
use Rattle.std.specs.List.{slice_split, list_all, before_first}
use Rattle.std.specs.Str.{bytes_eq, is_utf8}
use Rattle.std.specs.Str.Lossy.{utf8_lossy}
use Rattle.serde_json.specs.Data.{Data}
use Rattle.spec_api.specs.declared.kinds.Group.{Group}
use Rattle.spec_api.specs.declared.kinds.Group.TheVariants.{Core, Apps}
use Rattle.spec_api.specs.declared.kinds.Kind.{Kind}
use Rattle.spec_api.specs.declared.methods.Method.{Method}
use Rattle.spec_api.specs.declared.methods.Method.TheVariants.{Get, Post, Put, Patch, Delete}
use Rattle.spec_api.specs.declared.policies.StatedPolicy.{StatedPolicy}
use Rattle.spec_api.specs.declared.policies.StatedPolicy.TheVariants.{Nothing}
use Rattle.spec_api.specs.declared.refusals.Part.{Part}
use Rattle.spec_api.specs.declared.refusals.Part.TheVariants as part
use Rattle.spec_api.specs.Texts.Kinds.{group, plural, kind_with_plural, has_status}
use Rattle.spec_api.specs.Texts.Keys.{Key, is_namespace}
use Rattle.spec_api.specs.State.History.{View}
use Rattle.spec_api.specs.Requests.DeleteOptions.{Options, options_of, options_with, stated_policy}
use Rattle.spec_api.specs.Requests.ListQueries as collections
use Rattle.spec_api.specs.Requests.ListQueries.{ListOptions, WatchOptions, Collection, Read, everything, collection_of}
use Rattle.spec_api.specs.Requests.Queries.{Pairs, pairs_of, parameter, has_any}
use Rattle.spec_api.specs.Texts.Values.{data_of}
use Rattle.spec_api.specs.Objects.Refusals.{Refusal, bad_request, no_such_path, method_not_allowed, too_large}
use Rattle.spec_api.specs.Requests.ObjectRequests.{Request, get_object, create_object, update_object, update_status, patch_object, delete_object}

-- a collection of a kind, in one namespace or in all; an object; the status of an object (Kubernetes API Concepts, Resource URIs)
pub data Route : Type 0 where
  collection : Kind → Option (List ℕ) → Route
  object_at : Key → Route
  status_of : Key → Route

-- ---- paths

-- the start of a group's paths (Kubernetes API Concepts, Resource URIs)
abbrev pub prefix : Group → List ℕ
prefix Core = codes "/api/v1"
prefix Apps = codes "/apis/apps/v1"

-- the path of a route (Kubernetes API Concepts, Resource URIs)
abbrev pub collection_text : Kind → Option (List ℕ) → List ℕ
collection_text k None = prefix (group k) ++ (47 ∷ plural k)
collection_text k (Some ns) = prefix (group k) ++ (codes "/namespaces/" ++ (ns ++ (47 ∷ plural k)))

abbrev pub object_text : Key → List ℕ
object_text n = collection_text n.kind (Some n.namespace) ++ (47 ∷ n.name)

abbrev pub path_text : Route → List ℕ
path_text (collection k ns) = collection_text k ns
path_text (object_at n) = object_text n
path_text (status_of n) = object_text n ++ codes "/status"

-- the texts between the slashes; none is decoded (RFC 3986, Path)
abbrev pub segments : List ℕ → List (List ℕ)
segments path = slice_split (λ b. b == 47) path

-- the segments after the words of a prefix
abbrev pub after_words : List (List ℕ) → List (List ℕ) → Option (List (List ℕ))
after_words [] segs = Some segs
after_words (word ∷ words) [] = None
after_words (word ∷ words) (s ∷ segs) = if bytes_eq word s then after_words words segs else None

abbrev pub kind_with_status : Kind → Option Kind
kind_with_status k = if has_status k then Some k else None

-- below a prefix: `P`, `namespaces/N/P`, `namespaces/N/P/O` and `namespaces/N/P/O/status`
abbrev pub below : Group → List (List ℕ) → Option Route
below g (resource ∷ []) = option_map (λ k. collection k None) (kind_with_plural g resource)
below g (word ∷ n ∷ resource ∷ []) = if bytes_eq (codes "namespaces") word then option_map (λ k. collection k (Some n)) (kind_with_plural g resource) else None
below g (word ∷ n ∷ resource ∷ name ∷ []) =
    if bytes_eq (codes "namespaces") word then option_map (λ k. object_at (record { kind = k; namespace = n; name = name })) (kind_with_plural g resource) else None
below g (word ∷ n ∷ resource ∷ name ∷ last ∷ []) =
    if bytes_eq (codes "namespaces") word && bytes_eq (codes "status") last
    then option_map (λ k. status_of (record { kind = k; namespace = n; name = name })) (option_and_then kind_with_status (kind_with_plural g resource)) else None
below g segs = None

-- the prefix is `api/v1` or `apis/apps/v1`
abbrev pub by_prefix : List (List ℕ) → Option Route
by_prefix segs =
    option_map_or (below Core) (after_words (codes "api" ∷ codes "v1" ∷ []) segs)
    (option_and_then (below Apps) (after_words (codes "apis" ∷ codes "apps" ∷ codes "v1" ∷ []) segs))

abbrev pub is_filled : List ℕ → Bool
is_filled s = nat_lt 0 (length s)

-- the path begins with a slash, and no segment after it is empty
abbrev pub route_of : List (List ℕ) → Option Route
route_of ([] ∷ segs) = if list_all is_filled segs then by_prefix segs else None
route_of _ = None

-- the route with this path (Kubernetes API Concepts, Resource URIs)
abbrev pub route : List ℕ → Option Route
route path = route_of (segments path)

-- whether the namespace that a route names can be one
abbrev pub names_namespace : Route → Bool
names_namespace (collection k ns) = option_map_or is_namespace ns true
names_namespace (object_at n) = is_namespace n.namespace
names_namespace (status_of n) = is_namespace n.namespace

-- ---- methods, queries and bodies

-- the methods of each route (Kubernetes API Concepts, API verbs)
abbrev pub is_allowed : Method → Route → Bool
is_allowed Get r = true
is_allowed Post (collection k ns) = is_some ns
is_allowed Put (object_at n) = true
is_allowed Put (status_of n) = true
is_allowed Patch (object_at n) = true
is_allowed Delete (object_at n) = true
is_allowed method r = false

-- a target is a path, and a query after a `?` (RFC 3986, Path)
abbrev pub path_of : List ℕ → List ℕ
path_of target = before_first (λ b. b == 63) target

-- a body may be so long, whatever the method does with it
abbrev pub longest_body : ℕ
longest_body = 1048576

abbrev pub is_too_long : List ℕ → Bool
is_too_long text = nat_lt longest_body (length text)

-- what is asked: a request of an object, the list of a view, or a watch of it (Kubernetes API Concepts, API verbs)
pub data Asked : Type 0 where
  request : Request → Asked
  list : View → ListOptions → Asked
  watch : View → WatchOptions → Asked

-- what a query adds to a request: which objects of a collection are asked for and what of them, and the policy that a delete names
pub record Query : Type 0 where
  pub collection : Collection
  pub policy : StatedPolicy

-- a part of the request that is not understood is a refusal
abbrev pub or_bad_request : {A : Type 0} → Result A Part → Result A Refusal
or_bad_request found = result_map_both (λ a. a) bad_request found

-- the data of a body, or the refusal of what is no JSON in UTF-8
abbrev pub body_of : List ℕ → Result Data Refusal
body_of text = ok_or (data_of text) (bad_request part.Body)

-- the request that is made of what was read
abbrev pub asks_with : {A : Type 0} → (A → Request) → Result A Refusal → Result Asked Refusal
asks_with f found = result_map_both (λ a. request (f a)) (λ e. e) found

-- the options of a delete: what its body says or, without one, its query
abbrev pub delete_options : Query → List ℕ → Result Options Refusal
delete_options q text =
    if length text == 0 then or_bad_request (options_with part.Query None None q.policy)
    else result_flatten (result_map_both (λ d. or_bad_request (options_of d)) (λ e. e) (body_of text))

-- a query of which nothing counts but the policy that a delete names; it may not ask for a dry run (Kubernetes API Concepts, Dry-run)
abbrev pub only_policy : Pairs → StatedPolicy → Result Query Part
only_policy pairs policy = if has_any (codes "dryRun" ∷ []) pairs then Err part.Query else Ok (record { collection = everything; policy = policy })

-- what the query of a target adds, by the method and the route, or which part of it is not understood
abbrev pub query_for : Method → Route → List ℕ → Result Query Part
query_for Get (collection k ns) target = result_map_both (λ c. record { collection = c; policy = Nothing }) (λ p. p) (collection_of (pairs_of target))
query_for Delete r target = only_policy (pairs_of target) (stated_policy (parameter (codes "propagationPolicy") (pairs_of target)))
query_for method r target = only_policy (pairs_of target) Nothing

-- what is selected of a collection
abbrev pub selected : Kind → Option (List ℕ) → Collection → View
selected k ns c = record { kind = k; namespace = ns; labels = c.labels; fields = c.fields }

abbrev pub read_as : View → Read → Asked
read_as v (collections.list o) = list v o
read_as v (collections.watch o) = watch v o

-- what a method asks of a route (Kubernetes API Concepts, API verbs)
abbrev pub asked : Method → Route → Query → List ℕ → Result Asked Refusal
asked Get (collection k ns) q text = Ok (read_as (selected k ns q.collection) q.collection.read)
asked Get (object_at n) q text = Ok (request (get_object n))
asked Get (status_of n) q text = Ok (request (get_object n))
asked Post (collection k (Some ns)) q text = asks_with (create_object k ns) (body_of text)
asked Put (object_at n) q text = asks_with (update_object n) (body_of text)
asked Put (status_of n) q text = asks_with (update_status n) (body_of text)
asked Patch (object_at n) q text = asks_with (patch_object n) (body_of text)
asked Delete (object_at n) q text = asks_with (delete_object n) (delete_options q text)
asked method r q text = Err method_not_allowed

-- what is asked, or the first refusal: of the query, of the length of the body, of what the body says
abbrev pub asked_with : Method → Route → List ℕ → Result Query Part → Result Asked Refusal
asked_with method r text (Err p) = Err (bad_request p)
asked_with method r text (Ok q) = if is_too_long text then Err too_large else asked method r q text

abbrev pub asked_at : Method → List ℕ → List ℕ → Option Route → Result Asked Refusal
asked_at method target text None = Err no_such_path
asked_at method target text (Some r) =
    if not (names_namespace r) then Err (bad_request part.Path)
    else (if not (is_allowed method r) then Err method_not_allowed else asked_with method r text (query_for method r target))

-- a target that is no text is read as one, with U+FFFD in the place of what is none (Unicode, U+FFFD Substitution)
abbrev pub decoded : List ℕ → List ℕ
decoded t = if is_utf8 t then t else utf8_lossy t

-- what is asked, or the first refusal: of the path, the method, the query, the body
abbrev pub read_request : Method → List ℕ → List ℕ → Result Asked Refusal
read_request method target text = asked_at method (decoded target) text (route (path_of (decoded target)))
