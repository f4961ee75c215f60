-- Worked facts, computed from the definitions: what is written for these lines, and values of single definitions.
use Rattle.std.specs.Prelude.{ℕ, zero, suc, List, map, replicate, ◌≡◌, ◌≢◌, Option, Some, None, codes, ◌++◌, ◌∷◌, ◌^◌, ◌-◌, [], true, false}
use Rattle.std.specs.List.{list_all, list_any}
use Rattle.serde_json.specs.Data.{Data, string, array, object, no_items, no_members, member}
use Rattle.serde_json.specs.Read.{read}
use Rattle.serde_json.specs.Written.{compact_text}
use Rattle.spec_api.specs.declared.kinds.Kind.TheVariants.{ConfigMap, Pod, ReplicaSet, Deployment}
use Rattle.spec_api.specs.Refusals.{bad_request, not_found, no_such_path, method_not_allowed, already_exists, conflict, expired, length_required, too_large, unsupported_media_type, invalid, no_memory, too_new, storage_full, status_body, success_body}
use Rattle.spec_api.specs.declared.refusals.Part.TheVariants.{Token}
use Rattle.spec_api.specs.declared.refusals.Mismatch.TheVariants as mismatch
use Rattle.spec_api.specs.declared.refusals.Field.TheVariants as field
use Rattle.spec_api.specs.Verbs.{accept_at, refused, write_of}
use Rattle.spec_api.specs.ObjectRequests.{create_object}
use Rattle.spec_api.specs.declared.kinds.Kind.{Kind}
use Rattle.spec_api.specs.Kinds.{kind_text, api_version, plural, resource, has_status, has_generation}
use Rattle.spec_api.specs.Reading.{is_body}
use Rattle.spec_api.specs.Targets.{collection, object_at, status_of, path_text}
use Rattle.spec_line_protocol.specs.Lines.{replay}
use Rattle.spec_api.specs.Moments.{is_moment}
use Rattle.spec_api.specs.Keys.{is_subdomain, is_namespace}
use Rattle.spec_api.specs.Uids.{uid_text}
use Rattle.spec_api.specs.Values.{merged}

-- the list of an empty store has no items, at revision 1
abbrev pub EmptyList : Type 0
EmptyList =
    replay
    (codes "GET /api/v1/configmaps\n")
    ≡ codes "200 {\"apiVersion\":\"v1\",\"items\":[],\"kind\":\"ConfigMapList\",\"metadata\":{\"resourceVersion\":\"1\"}}\n"

-- the first create has revision 2, and its uid encodes it
abbrev pub FirstCreate : Type 0
FirstCreate =
    replay
    (codes "POST /api/v1/namespaces/default/configmaps {\"metadata\":{\"name\":\"a\"},\"data\":{\"k\":\"v\"}}\n")
    ≡ codes "201 {\"apiVersion\":\"v1\",\"data\":{\"k\":\"v\"},\"kind\":\"ConfigMap\",\"metadata\":{\"creationTimestamp\":\"2026-01-01T00:00:00Z\",\"name\":\"a\",\"namespace\":\"default\",\"resourceVersion\":\"2\",\"uid\":\"00000000-0000-8000-8000-000000000002\"}}\n"

-- of two updates that name one version the second is refused
abbrev pub SecondUpdateConflicts : Type 0
SecondUpdateConflicts =
    replay
    (codes "POST /api/v1/namespaces/default/configmaps {\"metadata\":{\"name\":\"a\"},\"data\":{\"k\":\"v\"}}\n"
    ++ codes "PUT /api/v1/namespaces/default/configmaps/a {\"metadata\":{\"name\":\"a\",\"resourceVersion\":\"2\"},\"data\":{\"k\":\"w\"}}\n"
    ++ codes "PUT /api/v1/namespaces/default/configmaps/a {\"metadata\":{\"name\":\"a\",\"resourceVersion\":\"2\"},\"data\":{\"k\":\"w\"}}\n")
    ≡ codes "201 {\"apiVersion\":\"v1\",\"data\":{\"k\":\"v\"},\"kind\":\"ConfigMap\",\"metadata\":{\"creationTimestamp\":\"2026-01-01T00:00:00Z\",\"name\":\"a\",\"namespace\":\"default\",\"resourceVersion\":\"2\",\"uid\":\"00000000-0000-8000-8000-000000000002\"}}\n"
    ++ codes "200 {\"apiVersion\":\"v1\",\"data\":{\"k\":\"w\"},\"kind\":\"ConfigMap\",\"metadata\":{\"creationTimestamp\":\"2026-01-01T00:00:00Z\",\"name\":\"a\",\"namespace\":\"default\",\"resourceVersion\":\"3\",\"uid\":\"00000000-0000-8000-8000-000000000002\"}}\n"
    ++ codes "409 {\"apiVersion\":\"v1\",\"code\":409,\"details\":{\"kind\":\"configmaps\",\"name\":\"a\"},\"kind\":\"Status\",\"message\":\"Operation cannot be fulfilled on configmaps \\\"a\\\": the object has been modified; please apply your changes to the latest version and try again\",\"metadata\":{},\"reason\":\"Conflict\",\"status\":\"Failure\"}\n"

-- what was created is read back, and listed without its kind
abbrev pub CreateReadsBack : Type 0
CreateReadsBack =
    replay
    (codes "POST /api/v1/namespaces/default/configmaps {\"metadata\":{\"name\":\"a\"},\"data\":{\"k\":\"v\"}}\n"
    ++ codes "GET /api/v1/namespaces/default/configmaps/a\n"
    ++ codes "GET /api/v1/namespaces/default/configmaps\n")
    ≡ codes "201 {\"apiVersion\":\"v1\",\"data\":{\"k\":\"v\"},\"kind\":\"ConfigMap\",\"metadata\":{\"creationTimestamp\":\"2026-01-01T00:00:00Z\",\"name\":\"a\",\"namespace\":\"default\",\"resourceVersion\":\"2\",\"uid\":\"00000000-0000-8000-8000-000000000002\"}}\n"
    ++ codes "200 {\"apiVersion\":\"v1\",\"data\":{\"k\":\"v\"},\"kind\":\"ConfigMap\",\"metadata\":{\"creationTimestamp\":\"2026-01-01T00:00:00Z\",\"name\":\"a\",\"namespace\":\"default\",\"resourceVersion\":\"2\",\"uid\":\"00000000-0000-8000-8000-000000000002\"}}\n"
    ++ codes "200 {\"apiVersion\":\"v1\",\"items\":[{\"data\":{\"k\":\"v\"},\"metadata\":{\"creationTimestamp\":\"2026-01-01T00:00:00Z\",\"name\":\"a\",\"namespace\":\"default\",\"resourceVersion\":\"2\",\"uid\":\"00000000-0000-8000-8000-000000000002\"}}],\"kind\":\"ConfigMapList\",\"metadata\":{\"resourceVersion\":\"2\"}}\n"

-- a name is created once
abbrev pub SecondCreateExists : Type 0
SecondCreateExists =
    replay
    (codes "POST /api/v1/namespaces/default/configmaps {\"metadata\":{\"name\":\"a\"},\"data\":{\"k\":\"v\"}}\n"
    ++ codes "POST /api/v1/namespaces/default/configmaps {\"metadata\":{\"name\":\"a\"},\"data\":{\"k\":\"v\"}}\n")
    ≡ codes "201 {\"apiVersion\":\"v1\",\"data\":{\"k\":\"v\"},\"kind\":\"ConfigMap\",\"metadata\":{\"creationTimestamp\":\"2026-01-01T00:00:00Z\",\"name\":\"a\",\"namespace\":\"default\",\"resourceVersion\":\"2\",\"uid\":\"00000000-0000-8000-8000-000000000002\"}}\n"
    ++ codes "409 {\"apiVersion\":\"v1\",\"code\":409,\"details\":{\"kind\":\"configmaps\",\"name\":\"a\"},\"kind\":\"Status\",\"message\":\"configmaps \\\"a\\\" already exists\",\"metadata\":{},\"reason\":\"AlreadyExists\",\"status\":\"Failure\"}\n"

-- an object that is not there is not found, by a read or an update
abbrev pub AbsentIsNotFound : Type 0
AbsentIsNotFound =
    replay
    (codes "GET /api/v1/namespaces/default/configmaps/a\n"
    ++ codes "PUT /api/v1/namespaces/default/configmaps/a {\"metadata\":{\"name\":\"a\"}}\n")
    ≡ codes "404 {\"apiVersion\":\"v1\",\"code\":404,\"details\":{\"kind\":\"configmaps\",\"name\":\"a\"},\"kind\":\"Status\",\"message\":\"configmaps \\\"a\\\" not found\",\"metadata\":{},\"reason\":\"NotFound\",\"status\":\"Failure\"}\n"
    ++ codes "404 {\"apiVersion\":\"v1\",\"code\":404,\"details\":{\"kind\":\"configmaps\",\"name\":\"a\"},\"kind\":\"Status\",\"message\":\"configmaps \\\"a\\\" not found\",\"metadata\":{},\"reason\":\"NotFound\",\"status\":\"Failure\"}\n"

-- a create without a name, or with a bad one, is invalid
abbrev pub NamesAreChecked : Type 0
NamesAreChecked =
    replay
    (codes "POST /api/v1/namespaces/default/configmaps {}\n"
    ++ codes "POST /api/v1/namespaces/default/configmaps {\"metadata\":{\"name\":\"A\"}}\n")
    ≡ codes "422 {\"apiVersion\":\"v1\",\"code\":422,\"kind\":\"Status\",\"message\":\"configmaps \\\"\\\" is invalid: metadata.name\",\"metadata\":{},\"reason\":\"Invalid\",\"status\":\"Failure\"}\n"
    ++ codes "422 {\"apiVersion\":\"v1\",\"code\":422,\"kind\":\"Status\",\"message\":\"configmaps \\\"A\\\" is invalid: metadata.name\",\"metadata\":{},\"reason\":\"Invalid\",\"status\":\"Failure\"}\n"

-- a fraction, text that is no JSON object, and a label that is no text are refused
abbrev pub BodiesAreRead : Type 0
BodiesAreRead =
    replay
    (codes "POST /api/v1/namespaces/default/configmaps {\"metadata\":{\"name\":\"a\"},\"data\":{\"k\":1.5}}\n"
    ++ codes "POST /api/v1/namespaces/default/configmaps []\n"
    ++ codes "POST /api/v1/namespaces/default/configmaps {\n"
    ++ codes "POST /api/v1/namespaces/default/configmaps {\"metadata\":{\"name\":\"a\",\"labels\":{\"x\":1}}}\n")
    ≡ codes "400 {\"apiVersion\":\"v1\",\"code\":400,\"kind\":\"Status\",\"message\":\"bad request: body\",\"metadata\":{},\"reason\":\"BadRequest\",\"status\":\"Failure\"}\n"
    ++ codes "400 {\"apiVersion\":\"v1\",\"code\":400,\"kind\":\"Status\",\"message\":\"bad request: body\",\"metadata\":{},\"reason\":\"BadRequest\",\"status\":\"Failure\"}\n"
    ++ codes "400 {\"apiVersion\":\"v1\",\"code\":400,\"kind\":\"Status\",\"message\":\"bad request: body\",\"metadata\":{},\"reason\":\"BadRequest\",\"status\":\"Failure\"}\n"
    ++ codes "400 {\"apiVersion\":\"v1\",\"code\":400,\"kind\":\"Status\",\"message\":\"bad request: object\",\"metadata\":{},\"reason\":\"BadRequest\",\"status\":\"Failure\"}\n"

-- nulls, empty texts and empty labels are left out, and the server sets what it owns
abbrev pub ServerSetsMetadata : Type 0
ServerSetsMetadata =
    replay
    (codes "AT 2026-02-03T04:05:06Z\n"
    ++ codes "POST /api/v1/namespaces/default/configmaps {\"metadata\":{\"name\":\"a\",\"uid\":\"x\",\"creationTimestamp\":null,\"deletionTimestamp\":\"y\",\"labels\":{},\"generateName\":\"\"},\"other\":[null,{\"z\":null}]}\n")
    ≡ codes "201 {\"apiVersion\":\"v1\",\"kind\":\"ConfigMap\",\"metadata\":{\"creationTimestamp\":\"2026-02-03T04:05:06Z\",\"name\":\"a\",\"namespace\":\"default\",\"resourceVersion\":\"2\",\"uid\":\"00000000-0000-8000-8000-000000000002\"},\"other\":[null,{}]}\n"

-- a path is looked at before the method, the method before the query
abbrev pub PathsComeFirst : Type 0
PathsComeFirst =
    replay
    (codes "GET /api/v1/nodes\n"
    ++ codes "GET /api/v1/namespaces/A/configmaps\n"
    ++ codes "DELETE /api/v1/namespaces/default/configmaps?dryRun=All\n"
    ++ codes "GET /api/v1/namespaces/default/configmaps?dryRun=All\n"
    ++ codes "HELLO\n"
    ++ codes "AT 2025-02-29T00:00:00Z\n")
    ≡ codes "404 {\"apiVersion\":\"v1\",\"code\":404,\"kind\":\"Status\",\"message\":\"the server could not find the requested resource\",\"metadata\":{},\"reason\":\"NotFound\",\"status\":\"Failure\"}\n"
    ++ codes "400 {\"apiVersion\":\"v1\",\"code\":400,\"kind\":\"Status\",\"message\":\"bad request: path\",\"metadata\":{},\"reason\":\"BadRequest\",\"status\":\"Failure\"}\n"
    ++ codes "405 {\"apiVersion\":\"v1\",\"code\":405,\"kind\":\"Status\",\"message\":\"the server does not allow this method on the requested resource\",\"metadata\":{},\"reason\":\"MethodNotAllowed\",\"status\":\"Failure\"}\n"
    ++ codes "400 {\"apiVersion\":\"v1\",\"code\":400,\"kind\":\"Status\",\"message\":\"bad request: query\",\"metadata\":{},\"reason\":\"BadRequest\",\"status\":\"Failure\"}\n"
    ++ codes "400 {\"apiVersion\":\"v1\",\"code\":400,\"kind\":\"Status\",\"message\":\"bad request: head\",\"metadata\":{},\"reason\":\"BadRequest\",\"status\":\"Failure\"}\n"
    ++ codes "400 {\"apiVersion\":\"v1\",\"code\":400,\"kind\":\"Status\",\"message\":\"bad request: head\",\"metadata\":{},\"reason\":\"BadRequest\",\"status\":\"Failure\"}\n"

-- a moment is a second of a day that the calendar has
abbrev pub MomentsAreDays : Type 0
MomentsAreDays =
    (list_all is_moment (codes "2024-02-29T00:00:00Z" ∷ codes "2000-02-29T23:59:59Z" ∷ codes "0000-01-01T00:00:00Z" ∷ codes "2026-12-31T12:30:00Z" ∷ []) ≡ true)
    × (list_any is_moment
    (codes "2025-02-29T00:00:00Z" ∷ codes "1900-02-29T00:00:00Z" ∷ codes "2026-04-31T00:00:00Z" ∷ codes "2026-00-01T00:00:00Z" ∷ codes "2026-13-01T00:00:00Z" ∷ codes "2026-01-00T00:00:00Z"
    ∷ codes "2026-01-01T24:00:00Z" ∷ codes "2026-01-01T00:60:00Z" ∷ codes "2026-01-01T00:00:60Z" ∷ codes "2026-01-01 00:00:00Z" ∷ codes "2026-01-01T00:00:00z"
    ∷ codes "2026-01-01T00:00:00" ∷ codes "2026-01-01T00:00:00.0Z" ∷ codes "2026-1-01T00:00:00ZZ" ∷ codes "" ∷ [])
    ≡ false)

-- a uid is the cluster, the version 8, the variant and the revision, in lower case
abbrev pub UidsAreWritten : Type 0
UidsAreWritten =
    (uid_text 0 2 ≡ codes "00000000-0000-8000-8000-000000000002")
    × (uid_text 0xABCDEF012345 9007199254740991 ≡ codes "abcdef01-2345-8000-801f-ffffffffffff")
    × (uid_text 0 (2 ^ 62 - 1) ≡ codes "00000000-0000-8000-bfff-ffffffffffff")

-- names are DNS subdomains
abbrev pub NamesAreSubdomains : Type 0
NamesAreSubdomains =
    (list_all is_subdomain (codes "a" ∷ codes "web-1" ∷ codes "a.b-c.9" ∷ []) ≡ true)
    × (list_any is_subdomain (codes "" ∷ codes "A" ∷ codes "-a" ∷ codes "a-" ∷ codes "a..b" ∷ codes ".a" ∷ codes "a_b" ∷ []) ≡ false)

-- the text of what a patch makes of a target, both given as texts
abbrev pub merged_text : Option Data → Option Data → Option (List ℕ)
merged_text (Some target) (Some patch) = Some (compact_text (merged target patch))
merged_text target patch = None

abbrev pub patched : List ℕ → List ℕ → Option (List ℕ)
patched target patch = merged_text (read target) (read patch)

-- merge patches do what each example of RFC 7396, Appendix A, says
abbrev pub PatchesMerge : Type 0
PatchesMerge =
    (patched (codes "{\"a\":\"b\"}") (codes "{\"a\":\"c\"}") ≡ Some (codes "{\"a\":\"c\"}"))
    × (patched (codes "{\"a\":\"b\"}") (codes "{\"b\":\"c\"}") ≡ Some (codes "{\"a\":\"b\",\"b\":\"c\"}"))
    × (patched (codes "{\"a\":\"b\"}") (codes "{\"a\":null}") ≡ Some (codes "{}"))
    × (patched (codes "{\"a\":\"b\",\"b\":\"c\"}") (codes "{\"a\":null}") ≡ Some (codes "{\"b\":\"c\"}"))
    × (patched (codes "{\"a\":[\"b\"]}") (codes "{\"a\":\"c\"}") ≡ Some (codes "{\"a\":\"c\"}"))
    × (patched (codes "{\"a\":\"c\"}") (codes "{\"a\":[\"b\"]}") ≡ Some (codes "{\"a\":[\"b\"]}"))
    × (patched (codes "{\"a\":{\"b\":\"c\"}}") (codes "{\"a\":{\"b\":\"d\",\"c\":null}}") ≡ Some (codes "{\"a\":{\"b\":\"d\"}}"))
    × (patched (codes "{\"a\":[{\"b\":\"c\"}]}") (codes "{\"a\":[1]}") ≡ Some (codes "{\"a\":[1]}"))
    × (patched (codes "[\"a\",\"b\"]") (codes "[\"c\",\"d\"]") ≡ Some (codes "[\"c\",\"d\"]"))
    × (patched (codes "{\"a\":\"b\"}") (codes "[\"c\"]") ≡ Some (codes "[\"c\"]"))
    × (patched (codes "{\"a\":\"foo\"}") (codes "null") ≡ Some (codes "null"))
    × (patched (codes "{\"a\":\"foo\"}") (codes "\"bar\"") ≡ Some (codes "\"bar\""))
    × (patched (codes "{\"e\":null}") (codes "{\"a\":1}") ≡ Some (codes "{\"a\":1,\"e\":null}"))
    × (patched (codes "[1,2]") (codes "{\"a\":\"b\",\"c\":null}") ≡ Some (codes "{\"a\":\"b\"}"))
    × (patched (codes "{}") (codes "{\"a\":{\"bb\":{\"ccc\":null}}}") ≡ Some (codes "{\"a\":{\"bb\":{}}}"))

-- an update keeps what the server owns, and is refused where it names another uid
abbrev pub UpdateKeepsIdentity : Type 0
UpdateKeepsIdentity =
    replay
    (codes "POST /api/v1/namespaces/default/configmaps {\"metadata\":{\"name\":\"a\",\"generation\":7},\"data\":{\"k\":\"v\"}}\n"
    ++ codes "AT 2030-01-01T00:00:00Z\n"
    ++ codes "PUT /api/v1/namespaces/default/configmaps/a {\"metadata\":{\"name\":\"a\",\"uid\":\"u\"}}\n"
    ++ codes "PUT /api/v1/namespaces/default/configmaps/a {\"metadata\":{\"name\":\"b\"}}\n"
    ++ codes "PUT /api/v1/namespaces/default/configmaps/a {\"metadata\":{\"name\":\"a\",\"namespace\":\"other\"}}\n"
    ++ codes "PUT /api/v1/namespaces/default/configmaps/a {\"metadata\":{\"name\":\"a\",\"creationTimestamp\":\"x\",\"deletionTimestamp\":\"y\",\"generation\":8,\"labels\":{\"l\":\"\"}}}\n"
    ++ codes "PUT /api/v1/namespaces/default/configmaps/a {\"metadata\":{\"name\":\"a\"}}\n")
    ≡ codes "201 {\"apiVersion\":\"v1\",\"data\":{\"k\":\"v\"},\"kind\":\"ConfigMap\",\"metadata\":{\"creationTimestamp\":\"2026-01-01T00:00:00Z\",\"generation\":7,\"name\":\"a\",\"namespace\":\"default\",\"resourceVersion\":\"2\",\"uid\":\"00000000-0000-8000-8000-000000000002\"}}\n"
    ++ codes "409 {\"apiVersion\":\"v1\",\"code\":409,\"details\":{\"kind\":\"configmaps\",\"name\":\"a\"},\"kind\":\"Status\",\"message\":\"Operation cannot be fulfilled on configmaps \\\"a\\\": the precondition on uid is not met\",\"metadata\":{},\"reason\":\"Conflict\",\"status\":\"Failure\"}\n"
    ++ codes "400 {\"apiVersion\":\"v1\",\"code\":400,\"kind\":\"Status\",\"message\":\"bad request: object\",\"metadata\":{},\"reason\":\"BadRequest\",\"status\":\"Failure\"}\n"
    ++ codes "400 {\"apiVersion\":\"v1\",\"code\":400,\"kind\":\"Status\",\"message\":\"bad request: object\",\"metadata\":{},\"reason\":\"BadRequest\",\"status\":\"Failure\"}\n"
    ++ codes "200 {\"apiVersion\":\"v1\",\"kind\":\"ConfigMap\",\"metadata\":{\"creationTimestamp\":\"2026-01-01T00:00:00Z\",\"generation\":7,\"labels\":{\"l\":\"\"},\"name\":\"a\",\"namespace\":\"default\",\"resourceVersion\":\"3\",\"uid\":\"00000000-0000-8000-8000-000000000002\"}}\n"
    ++ codes "200 {\"apiVersion\":\"v1\",\"kind\":\"ConfigMap\",\"metadata\":{\"creationTimestamp\":\"2026-01-01T00:00:00Z\",\"generation\":7,\"name\":\"a\",\"namespace\":\"default\",\"resourceVersion\":\"4\",\"uid\":\"00000000-0000-8000-8000-000000000002\"}}\n"

-- a list of all namespaces goes by namespace, then name, and a list of one has only its own
abbrev pub ListsAreOrdered : Type 0
ListsAreOrdered =
    replay
    (codes "POST /api/v1/namespaces/b/configmaps {\"metadata\":{\"name\":\"a\"}}\n"
    ++ codes "POST /api/v1/namespaces/a/configmaps {\"metadata\":{\"name\":\"c\"}}\n"
    ++ codes "POST /api/v1/namespaces/a/configmaps {\"metadata\":{\"name\":\"b\"}}\n"
    ++ codes "GET /api/v1/configmaps\n"
    ++ codes "GET /api/v1/namespaces/b/configmaps\n")
    ≡ codes "201 {\"apiVersion\":\"v1\",\"kind\":\"ConfigMap\",\"metadata\":{\"creationTimestamp\":\"2026-01-01T00:00:00Z\",\"name\":\"a\",\"namespace\":\"b\",\"resourceVersion\":\"2\",\"uid\":\"00000000-0000-8000-8000-000000000002\"}}\n"
    ++ codes "201 {\"apiVersion\":\"v1\",\"kind\":\"ConfigMap\",\"metadata\":{\"creationTimestamp\":\"2026-01-01T00:00:00Z\",\"name\":\"c\",\"namespace\":\"a\",\"resourceVersion\":\"3\",\"uid\":\"00000000-0000-8000-8000-000000000003\"}}\n"
    ++ codes "201 {\"apiVersion\":\"v1\",\"kind\":\"ConfigMap\",\"metadata\":{\"creationTimestamp\":\"2026-01-01T00:00:00Z\",\"name\":\"b\",\"namespace\":\"a\",\"resourceVersion\":\"4\",\"uid\":\"00000000-0000-8000-8000-000000000004\"}}\n"
    ++ codes "200 {\"apiVersion\":\"v1\",\"items\":[{\"metadata\":{\"creationTimestamp\":\"2026-01-01T00:00:00Z\",\"name\":\"b\",\"namespace\":\"a\",\"resourceVersion\":\"4\",\"uid\":\"00000000-0000-8000-8000-000000000004\"}},{\"metadata\":{\"creationTimestamp\":\"2026-01-01T00:00:00Z\",\"name\":\"c\",\"namespace\":\"a\",\"resourceVersion\":\"3\",\"uid\":\"00000000-0000-8000-8000-000000000003\"}},{\"metadata\":{\"creationTimestamp\":\"2026-01-01T00:00:00Z\",\"name\":\"a\",\"namespace\":\"b\",\"resourceVersion\":\"2\",\"uid\":\"00000000-0000-8000-8000-000000000002\"}}],\"kind\":\"ConfigMapList\",\"metadata\":{\"resourceVersion\":\"4\"}}\n"
    ++ codes "200 {\"apiVersion\":\"v1\",\"items\":[{\"metadata\":{\"creationTimestamp\":\"2026-01-01T00:00:00Z\",\"name\":\"a\",\"namespace\":\"b\",\"resourceVersion\":\"2\",\"uid\":\"00000000-0000-8000-8000-000000000002\"}}],\"kind\":\"ConfigMapList\",\"metadata\":{\"resourceVersion\":\"4\"}}\n"

-- the Status of each refusal, as the API server would write it
abbrev pub RefusalsAreSaid : Type 0
RefusalsAreSaid =
    (compact_text (status_body (bad_request Token))
    ≡ codes "{\"apiVersion\":\"v1\",\"code\":400,\"kind\":\"Status\",\"message\":\"bad request: token\",\"metadata\":{},\"reason\":\"BadRequest\",\"status\":\"Failure\"}")
    × (compact_text (status_body (not_found (record { kind = Deployment; namespace = codes "default"; name = codes "d" })))
    ≡ codes "{\"apiVersion\":\"v1\",\"code\":404,\"details\":{\"group\":\"apps\",\"kind\":\"deployments\",\"name\":\"d\"},\"kind\":\"Status\",\"message\":\"deployments.apps \\\"d\\\" not found\",\"metadata\":{},\"reason\":\"NotFound\",\"status\":\"Failure\"}")
    × (compact_text (status_body no_such_path)
    ≡ codes "{\"apiVersion\":\"v1\",\"code\":404,\"kind\":\"Status\",\"message\":\"the server could not find the requested resource\",\"metadata\":{},\"reason\":\"NotFound\",\"status\":\"Failure\"}")
    × (compact_text (status_body method_not_allowed)
    ≡ codes "{\"apiVersion\":\"v1\",\"code\":405,\"kind\":\"Status\",\"message\":\"the server does not allow this method on the requested resource\",\"metadata\":{},\"reason\":\"MethodNotAllowed\",\"status\":\"Failure\"}")
    × (compact_text (status_body (already_exists (record { kind = ConfigMap; namespace = codes "default"; name = codes "a" })))
    ≡ codes "{\"apiVersion\":\"v1\",\"code\":409,\"details\":{\"kind\":\"configmaps\",\"name\":\"a\"},\"kind\":\"Status\",\"message\":\"configmaps \\\"a\\\" already exists\",\"metadata\":{},\"reason\":\"AlreadyExists\",\"status\":\"Failure\"}")
    × (compact_text (status_body (conflict (record { kind = ConfigMap; namespace = codes "default"; name = codes "a" }) mismatch.ResourceVersion))
    ≡ codes "{\"apiVersion\":\"v1\",\"code\":409,\"details\":{\"kind\":\"configmaps\",\"name\":\"a\"},\"kind\":\"Status\",\"message\":\"Operation cannot be fulfilled on configmaps \\\"a\\\": the precondition on resourceVersion is not met\",\"metadata\":{},\"reason\":\"Conflict\",\"status\":\"Failure\"}")
    × (compact_text (status_body (expired 2 3))
    ≡ codes "{\"apiVersion\":\"v1\",\"code\":410,\"kind\":\"Status\",\"message\":\"too old resource version: 2 (3)\",\"metadata\":{},\"reason\":\"Expired\",\"status\":\"Failure\"}")
    × (compact_text (status_body length_required)
    ≡ codes "{\"apiVersion\":\"v1\",\"code\":411,\"kind\":\"Status\",\"message\":\"length required\",\"metadata\":{},\"reason\":\"LengthRequired\",\"status\":\"Failure\"}")
    × (compact_text (status_body too_large)
    ≡ codes "{\"apiVersion\":\"v1\",\"code\":413,\"kind\":\"Status\",\"message\":\"request entity too large\",\"metadata\":{},\"reason\":\"RequestEntityTooLarge\",\"status\":\"Failure\"}")
    × (compact_text (status_body unsupported_media_type)
    ≡ codes "{\"apiVersion\":\"v1\",\"code\":415,\"kind\":\"Status\",\"message\":\"unsupported media type\",\"metadata\":{},\"reason\":\"UnsupportedMediaType\",\"status\":\"Failure\"}")
    × (compact_text (status_body (invalid (record { kind = Deployment; namespace = codes "default"; name = codes "d" }) field.Selector))
    ≡ codes "{\"apiVersion\":\"v1\",\"code\":422,\"kind\":\"Status\",\"message\":\"deployments.apps \\\"d\\\" is invalid: spec.selector\",\"metadata\":{},\"reason\":\"Invalid\",\"status\":\"Failure\"}")
    × (compact_text (status_body no_memory)
    ≡ codes "{\"apiVersion\":\"v1\",\"code\":503,\"kind\":\"Status\",\"message\":\"no memory\",\"metadata\":{},\"reason\":\"ServiceUnavailable\",\"status\":\"Failure\"}")
    × (compact_text (status_body (too_new 8 7))
    ≡ codes "{\"apiVersion\":\"v1\",\"code\":504,\"kind\":\"Status\",\"message\":\"Timeout: Too large resource version: 8, current: 7\",\"metadata\":{},\"reason\":\"Timeout\",\"status\":\"Failure\"}")
    × (compact_text (status_body storage_full)
    ≡ codes "{\"apiVersion\":\"v1\",\"code\":507,\"kind\":\"Status\",\"message\":\"storage is full\",\"metadata\":{},\"reason\":\"StorageFull\",\"status\":\"Failure\"}")

-- the Status of a removal and of a compaction
abbrev pub SuccessesAreSaid : Type 0
SuccessesAreSaid =
    (compact_text (success_body (Some ((record { kind = ConfigMap; namespace = codes "default"; name = codes "a" }), codes "u")))
    ≡ codes "{\"apiVersion\":\"v1\",\"details\":{\"kind\":\"configmaps\",\"name\":\"a\",\"uid\":\"u\"},\"kind\":\"Status\",\"metadata\":{},\"status\":\"Success\"}")
    × (compact_text (success_body None)
    ≡ codes "{\"apiVersion\":\"v1\",\"kind\":\"Status\",\"metadata\":{},\"status\":\"Success\"}")

-- the greatest revision is given once, and then the storage is full
abbrev pub LastRevisionIsKept : Type 0
LastRevisionIsKept =
    (accept_at (create_object ConfigMap (codes "default") (object (member (codes "metadata") (object (member (codes "name") (string (codes "a")) no_members)) no_members))) [] 9007199254740991 (codes "2026-01-01T00:00:00Z")
    ≡ refused storage_full)
    × (write_of (accept_at (create_object ConfigMap (codes "default") (object (member (codes "metadata") (object (member (codes "name") (string (codes "a")) no_members)) no_members))) [] 9007199254740990 (codes "2026-01-01T00:00:00Z"))
    ≢ None)

-- a known member of another type is refused
abbrev pub MembersAreTyped : Type 0
MembersAreTyped =
    replay
    (codes "POST /api/v1/namespaces/default/configmaps {\"apiVersion\":\"v2\",\"metadata\":{\"name\":\"a\"}}\n"
    ++ codes "POST /api/v1/namespaces/default/configmaps {\"kind\":\"Pod\",\"metadata\":{\"name\":\"a\"}}\n"
    ++ codes "POST /api/v1/namespaces/default/configmaps {\"metadata\":[]}\n"
    ++ codes "POST /api/v1/namespaces/default/configmaps {\"metadata\":{\"name\":1}}\n"
    ++ codes "POST /api/v1/namespaces/default/configmaps {\"metadata\":{\"name\":\"a\",\"generateName\":1}}\n"
    ++ codes "POST /api/v1/namespaces/default/configmaps {\"metadata\":{\"name\":\"a\",\"uid\":1}}\n"
    ++ codes "POST /api/v1/namespaces/default/configmaps {\"metadata\":{\"name\":\"a\",\"creationTimestamp\":1}}\n"
    ++ codes "POST /api/v1/namespaces/default/configmaps {\"metadata\":{\"name\":\"a\",\"deletionTimestamp\":1}}\n"
    ++ codes "POST /api/v1/namespaces/default/configmaps {\"metadata\":{\"name\":\"a\",\"namespace\":\"b\"}}\n"
    ++ codes "POST /api/v1/namespaces/default/configmaps {\"metadata\":{\"name\":\"a\",\"namespace\":1}}\n"
    ++ codes "POST /api/v1/namespaces/default/configmaps {\"metadata\":{\"name\":\"a\",\"resourceVersion\":\"1\"}}\n"
    ++ codes "POST /api/v1/namespaces/default/configmaps {\"metadata\":{\"name\":\"a\",\"annotations\":{\"x\":1}}}\n"
    ++ codes "POST /api/v1/namespaces/default/configmaps {\"metadata\":{\"name\":\"a\",\"labels\":[\"x\"]}}\n"
    ++ codes "POST /api/v1/namespaces/default/configmaps {\"metadata\":{\"name\":\"a\",\"finalizers\":[1]}}\n"
    ++ codes "POST /api/v1/namespaces/default/configmaps {\"metadata\":{\"name\":\"a\",\"finalizers\":{}}}\n"
    ++ codes "POST /api/v1/namespaces/default/configmaps {\"metadata\":{\"name\":\"a\",\"ownerReferences\":[1]}}\n"
    ++ codes "POST /api/v1/namespaces/default/configmaps {\"metadata\":{\"name\":\"a\",\"ownerReferences\":[{\"controller\":1}]}}\n"
    ++ codes "POST /api/v1/namespaces/default/configmaps {\"metadata\":{\"name\":\"a\",\"ownerReferences\":[{\"blockOwnerDeletion\":\"x\"}]}}\n"
    ++ codes "POST /api/v1/namespaces/default/configmaps {\"metadata\":{\"name\":\"a\"},\"data\":{\"k\":1}}\n"
    ++ codes "POST /api/v1/namespaces/default/configmaps {\"metadata\":{\"name\":\"a\"},\"data\":\"x\"}\n")
    ≡ codes "400 {\"apiVersion\":\"v1\",\"code\":400,\"kind\":\"Status\",\"message\":\"bad request: object\",\"metadata\":{},\"reason\":\"BadRequest\",\"status\":\"Failure\"}\n"
    ++ codes "400 {\"apiVersion\":\"v1\",\"code\":400,\"kind\":\"Status\",\"message\":\"bad request: object\",\"metadata\":{},\"reason\":\"BadRequest\",\"status\":\"Failure\"}\n"
    ++ codes "400 {\"apiVersion\":\"v1\",\"code\":400,\"kind\":\"Status\",\"message\":\"bad request: object\",\"metadata\":{},\"reason\":\"BadRequest\",\"status\":\"Failure\"}\n"
    ++ codes "400 {\"apiVersion\":\"v1\",\"code\":400,\"kind\":\"Status\",\"message\":\"bad request: object\",\"metadata\":{},\"reason\":\"BadRequest\",\"status\":\"Failure\"}\n"
    ++ codes "400 {\"apiVersion\":\"v1\",\"code\":400,\"kind\":\"Status\",\"message\":\"bad request: object\",\"metadata\":{},\"reason\":\"BadRequest\",\"status\":\"Failure\"}\n"
    ++ codes "400 {\"apiVersion\":\"v1\",\"code\":400,\"kind\":\"Status\",\"message\":\"bad request: object\",\"metadata\":{},\"reason\":\"BadRequest\",\"status\":\"Failure\"}\n"
    ++ codes "400 {\"apiVersion\":\"v1\",\"code\":400,\"kind\":\"Status\",\"message\":\"bad request: object\",\"metadata\":{},\"reason\":\"BadRequest\",\"status\":\"Failure\"}\n"
    ++ codes "400 {\"apiVersion\":\"v1\",\"code\":400,\"kind\":\"Status\",\"message\":\"bad request: object\",\"metadata\":{},\"reason\":\"BadRequest\",\"status\":\"Failure\"}\n"
    ++ codes "400 {\"apiVersion\":\"v1\",\"code\":400,\"kind\":\"Status\",\"message\":\"bad request: object\",\"metadata\":{},\"reason\":\"BadRequest\",\"status\":\"Failure\"}\n"
    ++ codes "400 {\"apiVersion\":\"v1\",\"code\":400,\"kind\":\"Status\",\"message\":\"bad request: object\",\"metadata\":{},\"reason\":\"BadRequest\",\"status\":\"Failure\"}\n"
    ++ codes "400 {\"apiVersion\":\"v1\",\"code\":400,\"kind\":\"Status\",\"message\":\"bad request: object\",\"metadata\":{},\"reason\":\"BadRequest\",\"status\":\"Failure\"}\n"
    ++ codes "400 {\"apiVersion\":\"v1\",\"code\":400,\"kind\":\"Status\",\"message\":\"bad request: object\",\"metadata\":{},\"reason\":\"BadRequest\",\"status\":\"Failure\"}\n"
    ++ codes "400 {\"apiVersion\":\"v1\",\"code\":400,\"kind\":\"Status\",\"message\":\"bad request: object\",\"metadata\":{},\"reason\":\"BadRequest\",\"status\":\"Failure\"}\n"
    ++ codes "400 {\"apiVersion\":\"v1\",\"code\":400,\"kind\":\"Status\",\"message\":\"bad request: object\",\"metadata\":{},\"reason\":\"BadRequest\",\"status\":\"Failure\"}\n"
    ++ codes "400 {\"apiVersion\":\"v1\",\"code\":400,\"kind\":\"Status\",\"message\":\"bad request: object\",\"metadata\":{},\"reason\":\"BadRequest\",\"status\":\"Failure\"}\n"
    ++ codes "400 {\"apiVersion\":\"v1\",\"code\":400,\"kind\":\"Status\",\"message\":\"bad request: object\",\"metadata\":{},\"reason\":\"BadRequest\",\"status\":\"Failure\"}\n"
    ++ codes "400 {\"apiVersion\":\"v1\",\"code\":400,\"kind\":\"Status\",\"message\":\"bad request: object\",\"metadata\":{},\"reason\":\"BadRequest\",\"status\":\"Failure\"}\n"
    ++ codes "400 {\"apiVersion\":\"v1\",\"code\":400,\"kind\":\"Status\",\"message\":\"bad request: object\",\"metadata\":{},\"reason\":\"BadRequest\",\"status\":\"Failure\"}\n"
    ++ codes "400 {\"apiVersion\":\"v1\",\"code\":400,\"kind\":\"Status\",\"message\":\"bad request: object\",\"metadata\":{},\"reason\":\"BadRequest\",\"status\":\"Failure\"}\n"
    ++ codes "400 {\"apiVersion\":\"v1\",\"code\":400,\"kind\":\"Status\",\"message\":\"bad request: object\",\"metadata\":{},\"reason\":\"BadRequest\",\"status\":\"Failure\"}\n"

-- what is well formed is preserved, known or not, and what is empty in metadata is left out
abbrev pub MembersAreKept : Type 0
MembersAreKept =
    replay
    (codes "POST /api/v1/namespaces/default/configmaps {\"apiVersion\":\"v1\",\"kind\":\"ConfigMap\",\"metadata\":{\"name\":\"a\",\"namespace\":\"default\",\"resourceVersion\":\"\",\"annotations\":{\"x\":\"1\"},\"labels\":{\"x\":\"1\"},\"finalizers\":[\"f\"],\"ownerReferences\":[{\"apiVersion\":\"v1\",\"kind\":\"Pod\",\"name\":\"p\",\"uid\":\"u\",\"controller\":true,\"blockOwnerDeletion\":false}]},\"data\":{\"k\":\"\"},\"z\":[-1,18446744073709551615,true,{\"a\":null,\"b\":[]}]}\n"
    ++ codes "POST /api/v1/namespaces/default/configmaps {\"metadata\":{\"name\":\"b\",\"generateName\":\"\",\"namespace\":\"\",\"uid\":\"\",\"creationTimestamp\":\"\",\"deletionTimestamp\":\"\",\"labels\":{},\"annotations\":{},\"finalizers\":[],\"ownerReferences\":[]},\"data\":{}}\n")
    ≡ codes "201 {\"apiVersion\":\"v1\",\"data\":{\"k\":\"\"},\"kind\":\"ConfigMap\",\"metadata\":{\"annotations\":{\"x\":\"1\"},\"creationTimestamp\":\"2026-01-01T00:00:00Z\",\"finalizers\":[\"f\"],\"labels\":{\"x\":\"1\"},\"name\":\"a\",\"namespace\":\"default\",\"ownerReferences\":[{\"apiVersion\":\"v1\",\"blockOwnerDeletion\":false,\"controller\":true,\"kind\":\"Pod\",\"name\":\"p\",\"uid\":\"u\"}],\"resourceVersion\":\"2\",\"uid\":\"00000000-0000-8000-8000-000000000002\"},\"z\":[-1,18446744073709551615,true,{\"b\":[]}]}\n"
    ++ codes "201 {\"apiVersion\":\"v1\",\"data\":{},\"kind\":\"ConfigMap\",\"metadata\":{\"creationTimestamp\":\"2026-01-01T00:00:00Z\",\"name\":\"b\",\"namespace\":\"default\",\"resourceVersion\":\"3\",\"uid\":\"00000000-0000-8000-8000-000000000003\"}}\n"

-- lines of another form, other methods and other paths are refused, and an empty line is skipped
abbrev pub LinesAreRead : Type 0
LinesAreRead =
    replay
    (codes "POST /api/v1/namespaces/default/configmaps\n"
    ++ codes "POST /api/v1/namespaces/default/configmaps \n"
    ++ codes "PUT /api/v1/namespaces/default/configmaps/a\n"
    ++ codes "GET\n"
    ++ codes "GET \n"
    ++ codes " \n"
    ++ codes "\n"
    ++ codes "POST /api/v1/configmaps? {}\n"
    ++ codes "PUT /api/v1/namespaces/default/configmaps {}\n"
    ++ codes "POST /api/v1/namespaces/default/configmaps/a {}\n"
    ++ codes "PATCH /api/v1/namespaces/default/configmaps? {}\n"
    ++ codes "DELETE /api/v1/namespaces/default/configmaps\n"
    ++ codes "PUT /api/v1/namespaces/default/configmaps/a/status {}\n"
    ++ codes "GET /api/v1/namespaces/default/configmaps/\n"
    ++ codes "GET /api/v1/namespaces//configmaps\n"
    ++ codes "GET /apis/apps/v1/configmaps\n"
    ++ codes "GET /api/v1\n"
    ++ codes "COMPACT 01\n"
    ++ codes "get /api/v1/configmaps\n"
    ++ codes "AT 2026-01-01T00:00:60Z\n")
    ≡ codes "400 {\"apiVersion\":\"v1\",\"code\":400,\"kind\":\"Status\",\"message\":\"bad request: head\",\"metadata\":{},\"reason\":\"BadRequest\",\"status\":\"Failure\"}\n"
    ++ codes "400 {\"apiVersion\":\"v1\",\"code\":400,\"kind\":\"Status\",\"message\":\"bad request: body\",\"metadata\":{},\"reason\":\"BadRequest\",\"status\":\"Failure\"}\n"
    ++ codes "400 {\"apiVersion\":\"v1\",\"code\":400,\"kind\":\"Status\",\"message\":\"bad request: head\",\"metadata\":{},\"reason\":\"BadRequest\",\"status\":\"Failure\"}\n"
    ++ codes "400 {\"apiVersion\":\"v1\",\"code\":400,\"kind\":\"Status\",\"message\":\"bad request: head\",\"metadata\":{},\"reason\":\"BadRequest\",\"status\":\"Failure\"}\n"
    ++ codes "400 {\"apiVersion\":\"v1\",\"code\":400,\"kind\":\"Status\",\"message\":\"bad request: head\",\"metadata\":{},\"reason\":\"BadRequest\",\"status\":\"Failure\"}\n"
    ++ codes "400 {\"apiVersion\":\"v1\",\"code\":400,\"kind\":\"Status\",\"message\":\"bad request: head\",\"metadata\":{},\"reason\":\"BadRequest\",\"status\":\"Failure\"}\n"
    ++ codes "405 {\"apiVersion\":\"v1\",\"code\":405,\"kind\":\"Status\",\"message\":\"the server does not allow this method on the requested resource\",\"metadata\":{},\"reason\":\"MethodNotAllowed\",\"status\":\"Failure\"}\n"
    ++ codes "405 {\"apiVersion\":\"v1\",\"code\":405,\"kind\":\"Status\",\"message\":\"the server does not allow this method on the requested resource\",\"metadata\":{},\"reason\":\"MethodNotAllowed\",\"status\":\"Failure\"}\n"
    ++ codes "405 {\"apiVersion\":\"v1\",\"code\":405,\"kind\":\"Status\",\"message\":\"the server does not allow this method on the requested resource\",\"metadata\":{},\"reason\":\"MethodNotAllowed\",\"status\":\"Failure\"}\n"
    ++ codes "405 {\"apiVersion\":\"v1\",\"code\":405,\"kind\":\"Status\",\"message\":\"the server does not allow this method on the requested resource\",\"metadata\":{},\"reason\":\"MethodNotAllowed\",\"status\":\"Failure\"}\n"
    ++ codes "405 {\"apiVersion\":\"v1\",\"code\":405,\"kind\":\"Status\",\"message\":\"the server does not allow this method on the requested resource\",\"metadata\":{},\"reason\":\"MethodNotAllowed\",\"status\":\"Failure\"}\n"
    ++ codes "404 {\"apiVersion\":\"v1\",\"code\":404,\"kind\":\"Status\",\"message\":\"the server could not find the requested resource\",\"metadata\":{},\"reason\":\"NotFound\",\"status\":\"Failure\"}\n"
    ++ codes "404 {\"apiVersion\":\"v1\",\"code\":404,\"kind\":\"Status\",\"message\":\"the server could not find the requested resource\",\"metadata\":{},\"reason\":\"NotFound\",\"status\":\"Failure\"}\n"
    ++ codes "404 {\"apiVersion\":\"v1\",\"code\":404,\"kind\":\"Status\",\"message\":\"the server could not find the requested resource\",\"metadata\":{},\"reason\":\"NotFound\",\"status\":\"Failure\"}\n"
    ++ codes "404 {\"apiVersion\":\"v1\",\"code\":404,\"kind\":\"Status\",\"message\":\"the server could not find the requested resource\",\"metadata\":{},\"reason\":\"NotFound\",\"status\":\"Failure\"}\n"
    ++ codes "404 {\"apiVersion\":\"v1\",\"code\":404,\"kind\":\"Status\",\"message\":\"the server could not find the requested resource\",\"metadata\":{},\"reason\":\"NotFound\",\"status\":\"Failure\"}\n"
    ++ codes "400 {\"apiVersion\":\"v1\",\"code\":400,\"kind\":\"Status\",\"message\":\"bad request: head\",\"metadata\":{},\"reason\":\"BadRequest\",\"status\":\"Failure\"}\n"
    ++ codes "400 {\"apiVersion\":\"v1\",\"code\":400,\"kind\":\"Status\",\"message\":\"bad request: head\",\"metadata\":{},\"reason\":\"BadRequest\",\"status\":\"Failure\"}\n"
    ++ codes "400 {\"apiVersion\":\"v1\",\"code\":400,\"kind\":\"Status\",\"message\":\"bad request: head\",\"metadata\":{},\"reason\":\"BadRequest\",\"status\":\"Failure\"}\n"

-- every kind, in order
abbrev pub every_kind : List Kind
every_kind = ConfigMap ∷ Pod ∷ ReplicaSet ∷ Deployment ∷ []

-- objects in objects, so many in all
abbrev pub nested : ℕ → Data
nested zero = string []
nested (suc n) = object (member (codes "x") (nested n) no_members)

-- the four kinds, as the API reference has them
abbrev pub KindsAreNamed : Type 0
KindsAreNamed =
    (map kind_text every_kind ≡ codes "ConfigMap" ∷ codes "Pod" ∷ codes "ReplicaSet" ∷ codes "Deployment" ∷ [])
    × (map api_version every_kind ≡ codes "v1" ∷ codes "v1" ∷ codes "apps/v1" ∷ codes "apps/v1" ∷ [])
    × (map plural every_kind ≡ codes "configmaps" ∷ codes "pods" ∷ codes "replicasets" ∷ codes "deployments" ∷ [])
    × (map resource every_kind ≡ codes "configmaps" ∷ codes "pods" ∷ codes "replicasets.apps" ∷ codes "deployments.apps" ∷ [])
    × (map has_status every_kind ≡ false ∷ true ∷ true ∷ true ∷ [])
    × (map has_generation every_kind ≡ false ∷ false ∷ true ∷ true ∷ [])
    × (map path_text
    (collection ConfigMap None
    ∷ collection Pod (Some (codes "n"))
    ∷ object_at (record { kind = ReplicaSet; namespace = codes "n"; name = codes "r" })
    ∷ status_of (record { kind = Deployment; namespace = codes "n"; name = codes "d" })
    ∷ [])
    ≡ codes "/api/v1/configmaps" ∷ codes "/api/v1/namespaces/n/pods" ∷ codes "/apis/apps/v1/namespaces/n/replicasets/r" ∷ codes "/apis/apps/v1/namespaces/n/deployments/d/status" ∷ [])

-- the longest names and the deepest body
abbrev pub LimitsAreExact : Type 0
LimitsAreExact =
    (is_subdomain (replicate 253 97) ≡ true)
    × (is_subdomain (replicate 254 97) ≡ false)
    × (is_namespace (replicate 63 97) ≡ true)
    × (is_namespace (replicate 64 97) ≡ false)
    × (is_namespace (codes "a.b") ≡ false)
    × (is_body (nested 100) ≡ true)
    × (is_body (nested 101) ≡ false)
    × (is_body (array no_items) ≡ false)
