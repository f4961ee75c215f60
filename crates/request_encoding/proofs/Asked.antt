-- What a server reads of a method, the path of a route and a body.
use Rattle.std.proofs.Common.{◌≡◌, ℕ, List, [], length, true, false, cond, ◌==◌, Some, Ok, Err, refl, ap, ◌∙◌}
use Rattle.std.proofs.lemmas.Str.{is_utf8-from_IsUtf8}
use Rattle.std.specs.Str.{IsUtf8, is_utf8}
use Rattle.form_urlencoded.specs.Form.{raw_pairs}
use Rattle.form_urlencoded.proofs.FormLemmas.{raw_pairs-nil}
use Rattle.serde_json.specs.Data.{Data}
use Rattle.serde_json.specs.Read.{read}
use Rattle.spec_api.proofs.Truths.{left_true}
use Rattle.spec_api.specs.declared.kinds.Kind.{Kind}
use Rattle.spec_api.specs.declared.methods.Method.{Method}
use Rattle.spec_api.specs.declared.methods.Method.TheVariants.{Get, Post, Put, Patch, Delete}
use Rattle.spec_api.specs.declared.policies.StatedPolicy.TheVariants.{Nothing}
use Rattle.spec_api.specs.Keys.{Key, is_namespace}
use Rattle.spec_api.specs.Kinds.{has_status}
use Rattle.spec_api.specs.DeleteOptions.{Options, options_of}
use Rattle.spec_api.specs.ListQueries.{everything}
use Rattle.spec_api.specs.ObjectRequests.{get_object, create_object, update_object, update_status, patch_object, delete_object}
use Rattle.spec_api.specs.Queries.{pairs_of}
use Rattle.spec_api.specs.Refusals.{too_large}
use Rattle.spec_api.specs.Targets.{Query, Route, collection, object_at, status_of, route, path_of, path_text, names_namespace, is_allowed, query_for, is_too_long, asked, asked_with, asked_at, decoded, body_of, delete_options, read_request}
use Rattle.request_encoding.specs.Texts.{is_segment, is_address, taken}
use Rattle.request_encoding.proofs.Segments.{is_path, whole_path, no_query}
use Rattle.request_encoding.proofs.Routed.{collection_routed, object_routed, status_routed, collection_clear, object_clear, status_clear}

-- a query of which nothing counts
abbrev pub quiet : Query
quiet = record { collection = everything; policy = Nothing }

no_pairs : (t : List ℕ) → is_path t ≡ true → pairs_of t ≡ []
no_pairs t path = ap raw_pairs (no_query t path) ∙ raw_pairs-nil

as_it_is : (t : List ℕ) → is_utf8 t ≡ true → decoded t ≡ t
as_it_is t text = rw text refl

-- ---- a route that is asked with no query

record Asks (method : Method) (r : Route) : Type 0 where
  names : names_namespace r ≡ true
  allowed : is_allowed method r ≡ true
  queries : (t : List ℕ) → pairs_of t ≡ [] → query_for method r t ≡ Ok quiet

asked_there : (method : Method) (r : Route) (t body : List ℕ) → Asks method r → pairs_of t ≡ [] → asked_at method t body (Some r) ≡ cond (is_too_long body) (Err too_large) (asked method r quiet body)
asked_there method r t body is none = rw (is.names, is.allowed) (ap (asked_with method r body) (is.queries t none))

read_there : (method : Method) (r : Route) (t body : List ℕ) → Asks method r → IsUtf8 t → is_path t ≡ true → route t ≡ Some r
    → read_request method t body ≡ cond (is_too_long body) (Err too_large) (asked method r quiet body)
read_there method r t body is text path routed =
    ap (λ z. asked_at method z body (route (path_of z))) (as_it_is t (is_utf8-from_IsUtf8 t text))
    ∙ ap (λ z. asked_at method t body (route z)) (whole_path t path)
    ∙ ap (asked_at method t body) routed ∙ asked_there method r t body is (no_pairs t path)

path_at : {t u : List ℕ} → t ≡ u → is_path u ≡ true → is_path t ≡ true
path_at is path = ap is_path is ∙ path

-- ---- bodies

read_body : (text : List ℕ) (d : Data) → IsUtf8 text → read text ≡ Some d → body_of text ≡ Ok d
read_body text d is back = rw (is_utf8-from_IsUtf8 text is, back) refl

deletes : (q : Query) (body : List ℕ) (d : Data) (o : Options) → (length body == 0) ≡ false → body_of body ≡ Ok d → options_of d ≡ Ok o → delete_options q body ≡ Ok o
deletes q body d o some is says = rw (some, is, says) refl

-- ---- each request, of a text that is the path

module _ (n : Key) (t body : List ℕ) (at : is_address n ≡ true) (text : IsUtf8 t) where
  pub asks_get : t ≡ path_text (object_at n) → read_request Get t body ≡ taken (get_object n) body
  asks_get is =
      read_there Get (object_at n) t body (record { names = left_true (is_namespace n.namespace) (is_segment n.name) at; allowed = refl; queries = λ u none. rw none refl }) text (path_at is (object_clear n at)) (ap route is ∙ object_routed n at)

  pub asks_update : (d : Data) → t ≡ path_text (object_at n) → IsUtf8 body → read body ≡ Some d → read_request Put t body ≡ taken (update_object n d) body
  asks_update d is read_as back =
      read_there Put (object_at n) t body (record { names = left_true (is_namespace n.namespace) (is_segment n.name) at; allowed = refl; queries = λ u none. rw none refl }) text (path_at is (object_clear n at)) (ap route is ∙ object_routed n at)
      ∙ rw (read_body body d read_as back) refl

  pub asks_update_status : (d : Data) → has_status n.kind ≡ true → t ≡ path_text (status_of n) → IsUtf8 body → read body ≡ Some d → read_request Put t body ≡ taken (update_status n d) body
  asks_update_status d has is read_as back =
      read_there Put (status_of n) t body (record { names = left_true (is_namespace n.namespace) (is_segment n.name) at; allowed = refl; queries = λ u none. rw none refl }) text (path_at is (status_clear n at)) (ap route is ∙ status_routed n at has)
      ∙ rw (read_body body d read_as back) refl

  pub asks_patch : (d : Data) → t ≡ path_text (object_at n) → IsUtf8 body → read body ≡ Some d → read_request Patch t body ≡ taken (patch_object n d) body
  asks_patch d is read_as back =
      read_there Patch (object_at n) t body (record { names = left_true (is_namespace n.namespace) (is_segment n.name) at; allowed = refl; queries = λ u none. rw none refl }) text (path_at is (object_clear n at)) (ap route is ∙ object_routed n at)
      ∙ rw (read_body body d read_as back) refl

  pub asks_delete : (d : Data) (o : Options) → t ≡ path_text (object_at n) → IsUtf8 body → (length body == 0) ≡ false → read body ≡ Some d → options_of d ≡ Ok o → read_request Delete t body ≡ taken (delete_object n o) body
  asks_delete d o is read_as some back says =
      read_there Delete (object_at n) t body (record { names = left_true (is_namespace n.namespace) (is_segment n.name) at; allowed = refl; queries = λ u none. rw none refl }) text (path_at is (object_clear n at)) (ap route is ∙ object_routed n at)
      ∙ rw (deletes quiet body d o some (read_body body d read_as back) says) refl

pub asks_create : (k : Kind) (ns t body : List ℕ) (d : Data) → is_namespace ns ≡ true → IsUtf8 t → t ≡ path_text (collection k (Some ns)) → IsUtf8 body → read body ≡ Some d
    → read_request Post t body ≡ taken (create_object k ns d) body
asks_create k ns t body d named text is read_as back =
    read_there Post (collection k (Some ns)) t body (record { names = named; allowed = refl; queries = λ u none. rw none refl }) text (path_at is (collection_clear k ns named)) (ap route is ∙ collection_routed k ns named)
    ∙ rw (read_body body d read_as back) refl
