-- Heads of requests as they are written, and by which check each is refused, computed from the definitions.
use Rattle.std.specs.Prelude.{◌≡◌, ℕ, List, [], ◌∷◌, map, codes, Option, Some, None, Result, Ok, Err}
use Rattle.httparse.specs.Grammar.{RequestHead, Field, crlf, print_request}
use Rattle.spec_api.specs.declared.methods.Method.TheVariants.{Patch}
use Rattle.spec_api.specs.declared.kinds.Kind.TheVariants.{ConfigMap}
use Rattle.spec_api.specs.declared.refusals.Part.TheVariants as part
use Rattle.spec_api.specs.Refusals.{Refusal, bad_request, no_such_path, method_not_allowed, length_required, too_large, unsupported_media_type}
use Rattle.spec_api.specs.Targets.{object_at}
use Rattle.spec_http.specs.Heads.{head_of}
use Rattle.spec_http.specs.Checks.{Opening, checked}

-- a head of HTTP/1.1 or 1.0 with these fields
abbrev pub field : List ℕ × List ℕ → Field
field f = record { name = f.0; raw = 32 ∷ f.1; end = crlf }

abbrev pub head : ℕ → List ℕ → List ℕ → List (List ℕ × List ℕ) → RequestHead
head minor method target fields = record { blank = []; method = method; target = target; minor = minor; line_end = crlf; fields = map field fields; last = crlf }

-- a collection of one namespace, and an object in it
abbrev pub all : List ℕ
all = codes "/api/v1/namespaces/default/configmaps"

abbrev pub one : List ℕ
one = codes "/api/v1/namespaces/default/configmaps/a"

-- by which check a head is refused
abbrev pub refused_by : Result Opening Refusal → Option Refusal
refused_by (Ok o) = None
refused_by (Err f) = Some f

abbrev pub refusal : RequestHead → Option Refusal
refusal h = refused_by (checked (head_of h))

-- how a head is written
abbrev pub HeadsAreWritten : Type 0
HeadsAreWritten =
    print_request (head 1 (codes "POST") all ((codes "Content-Length", codes "2") ∷ []))
    ≡ codes "POST /api/v1/namespaces/default/configmaps HTTP/1.1\r\nContent-Length: 2\r\n\r\n"

-- two lengths, a sign, no digits, and a word are refused, before the path is looked at
abbrev pub LengthsComeFirst : Type 0
LengthsComeFirst =
    (refusal (head 1 (codes "GET") (codes "/api/v1/nodes") ((codes "Content-Length", codes "1") ∷ (codes "content-length", codes "1") ∷ [])) ≡ Some (bad_request part.Head))
    × (refusal (head 1 (codes "GET") (codes "/api/v1/nodes") ((codes "Content-Length", codes "+1") ∷ [])) ≡ Some (bad_request part.Head))
    × (refusal (head 1 (codes "GET") (codes "/api/v1/nodes") ((codes "Content-Length", []) ∷ [])) ≡ Some (bad_request part.Head))
    × (refusal (head 1 (codes "GET") (codes "/api/v1/nodes") ((codes "Content-Length", codes "x") ∷ [])) ≡ Some (bad_request part.Head))

-- a path that names nothing, and then a namespace of bad form, before the method; the method before the query
abbrev pub PathsComeBeforeMethods : Type 0
PathsComeBeforeMethods =
    (refusal (head 1 (codes "HEAD") (codes "/api/v1/nodes") []) ≡ Some no_such_path)
    × (refusal (head 1 (codes "GET") (codes "/api/v1/namespaces/A/pods") []) ≡ Some (bad_request part.Path))
    × (refusal (head 1 (codes "HEAD") (codes "/api/v1/namespaces/A/pods") []) ≡ Some (bad_request part.Path))
    × (refusal (head 1 (codes "HEAD") (codes "/api/v1/configmaps") []) ≡ Some method_not_allowed)
    × (refusal (head 1 (codes "POST") (codes "/api/v1/configmaps?dryRun=All") []) ≡ Some method_not_allowed)

-- the query, and then the version that a watch needs, before the length
abbrev pub QueriesComeBeforeLengths : Type 0
QueriesComeBeforeLengths =
    (refusal (head 1 (codes "GET") (codes "/api/v1/configmaps?limit=x") ((codes "Transfer-Encoding", codes "chunked") ∷ [])) ≡ Some (bad_request part.Query))
    × (refusal (head 0 (codes "GET") (codes "/api/v1/configmaps?watch=true&resourceVersion=1") ((codes "Transfer-Encoding", codes "chunked") ∷ [])) ≡ Some (bad_request part.Head))
    × (refusal (head 0 (codes "GET") (codes "/api/v1/configmaps?watch=true&resourceVersion=x") []) ≡ Some (bad_request part.Query))
    × (refusal (head 0 (codes "GET") (codes "/api/v1/configmaps") []) ≡ None)

-- a transfer coding with any method, and no length with a method that has a body, before the body's length
abbrev pub LengthsAreRequired : Type 0
LengthsAreRequired =
    (refusal (head 1 (codes "POST") all ((codes "Transfer-Encoding", codes "chunked") ∷ [])) ≡ Some length_required)
    × (refusal (head 1 (codes "POST") all []) ≡ Some length_required)
    × (refusal (head 1 (codes "GET") (codes "/api/v1/configmaps") ((codes "transfer-encoding", codes "identity") ∷ [])) ≡ Some length_required)
    × (refusal (head 1 (codes "POST") all ((codes "Transfer-Encoding", codes "chunked") ∷ (codes "Content-Length", codes "1048577") ∷ [])) ≡ Some length_required)
    × (refusal (head 1 (codes "DELETE") one []) ≡ None)

-- the body's length, whatever the method, before its media type
abbrev pub LongBodiesComeBeforeTypes : Type 0
LongBodiesComeBeforeTypes =
    (refusal (head 1 (codes "POST") all ((codes "Content-Type", codes "text/plain") ∷ (codes "Content-Length", codes "1048577") ∷ [])) ≡ Some too_large)
    × (refusal (head 1 (codes "GET") (codes "/api/v1/configmaps") ((codes "Content-Length", codes "1048577") ∷ [])) ≡ Some too_large)
    × (refusal (head 1 (codes "POST") all ((codes "Content-Type", codes "text/plain") ∷ (codes "Content-Length", codes "1048576") ∷ [])) ≡ Some unsupported_media_type)

-- which media types are taken: JSON or none, with parameters, in any case; of a patch a merge patch alone; the first counts
abbrev pub TypesAreChecked : Type 0
TypesAreChecked =
    (refusal (head 1 (codes "PUT") one ((codes "content-type", codes "Application/JSON ; charset=utf-8") ∷ (codes "content-length", codes "002") ∷ [])) ≡ None)
    × (refusal (head 1 (codes "POST") all ((codes "Content-Length", codes "2") ∷ [])) ≡ None)
    × (refusal (head 1 (codes "POST") all ((codes "Content-Length", codes "2") ∷ (codes "Content-Type", codes "application/merge-patch+json") ∷ [])) ≡ Some unsupported_media_type)
    × (refusal (head 1 (codes "PATCH") one ((codes "Content-Length", codes "2") ∷ [])) ≡ Some unsupported_media_type)
    × (refusal (head 1 (codes "PATCH") one ((codes "Content-Length", codes "2") ∷ (codes "Content-Type", codes "application/json") ∷ (codes "Content-Type", codes "application/merge-patch+json") ∷ [])) ≡ Some unsupported_media_type)

-- a patch is taken
abbrev pub PatchesAreTaken : Type 0
PatchesAreTaken =
    let patch = checked (head_of (head 1 (codes "PATCH") one ((codes "Content-Type", codes "application/merge-patch+json") ∷ (codes "Content-Length", codes "12") ∷ []))) in
    (o : Opening) × (patch ≡ Ok o) × (o.method ≡ Patch) × (o.route ≡ object_at (record { kind = ConfigMap; namespace = codes "default"; name = codes "a" })) × (o.body_length ≡ 12)
