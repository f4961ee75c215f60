-- What is written over connections, byte for byte, computed from the definitions.
use Rattle.std.specs.Prelude.{◌≡◌, ℕ, List, [], ◌∷◌, map, codes, Some}
use Rattle.http.specs.StatusCode.{reason_phrase}
use Rattle.httparse.specs.Grammar.{RequestHead, print_request}
use Rattle.spec_api.specs.declared.kinds.Kind.TheVariants.{ConfigMap}
use Rattle.spec_api.specs.Replies.{Session, start, reply_for}
use Rattle.spec_line_protocol.specs.Lines.{after_lines}
use Rattle.spec_api.specs.Streams.{bookmark, initial_end}
use Rattle.spec_http.specs.Heads.{head_of}
use Rattle.spec_http.specs.Checks.{checked}
use Rattle.spec_http.specs.Connections.{asked_after}
use Rattle.spec_http.specs.HeadExamples.{head, all, one}
use Rattle.spec_http.specs.Replies.{text_for, frames_text, phrases}

-- what is written in a session for a head and what follows it
abbrev pub written_in : Session → RequestHead → List ℕ → List ℕ
written_in s h rest = text_for (reply_for s) (asked_after (checked (head_of h)) rest)

-- and where nothing has happened
abbrev pub written : RequestHead → List ℕ → List ℕ
written h rest = written_in (start 1024) h rest

-- the head of a request for a list
abbrev pub get_list : RequestHead
get_list = head 1 (codes "GET") (codes "/api/v1/configmaps") []

-- the list of an empty store has 88 bytes
abbrev pub EmptyListIsWritten : Type 0
EmptyListIsWritten =
    (print_request get_list ≡ codes "GET /api/v1/configmaps HTTP/1.1\r\n\r\n")
    × (written get_list []
    ≡ codes "HTTP/1.1 200 OK\r\nContent-Type: application/json\r\nContent-Length: 88\r\nConnection: close\r\n\r\n{\"apiVersion\":\"v1\",\"items\":[],\"kind\":\"ConfigMapList\",\"metadata\":{\"resourceVersion\":\"1\"}}")

-- a refusal has a Status as its body
abbrev pub RefusalIsWritten : Type 0
RefusalIsWritten =
    written (head 1 (codes "POST") all ((codes "Transfer-Encoding", codes "chunked") ∷ [])) (codes "2\r\n{}\r\n0\r\n\r\n")
    ≡ codes "HTTP/1.1 411 Length Required\r\nContent-Type: application/json\r\nContent-Length: 133\r\nConnection: close\r\n\r\n{\"apiVersion\":\"v1\",\"code\":411,\"kind\":\"Status\",\"message\":\"length required\",\"metadata\":{},\"reason\":\"LengthRequired\",\"status\":\"Failure\"}"

-- after a ConfigMap and a Pod were created
abbrev pub two_created : Session
two_created =
    after_lines
    (start 1024)
    (codes "POST /api/v1/namespaces/default/configmaps {\"metadata\":{\"name\":\"a\"}}" ∷ codes "POST /api/v1/namespaces/default/pods {\"metadata\":{\"name\":\"p\"},\"spec\":{}}" ∷ [])

-- a watch of ConfigMaps from the first: the head, a bookmark as one chunk, of 103 bytes with its newline, and the end
abbrev pub WatchIsWritten : Type 0
WatchIsWritten =
    written_in two_created (head 1 (codes "GET") (codes "/api/v1/namespaces/default/configmaps?watch=true&resourceVersion=2&allowWatchBookmarks=true") []) []
    ≡ codes "HTTP/1.1 200 OK\r\nContent-Type: application/json\r\nTransfer-Encoding: chunked\r\nConnection: close\r\n\r\n67\r\n{\"object\":{\"apiVersion\":\"v1\",\"kind\":\"ConfigMap\",\"metadata\":{\"resourceVersion\":\"3\"}},\"type\":\"BOOKMARK\"}\n\r\n0\r\n\r\n"

-- a chunk's size is written in lower-case hexadecimal digits
abbrev pub SizesAreHexadecimal : Type 0
SizesAreHexadecimal =
    (frames_text ConfigMap (bookmark 3 ∷ [])
    ≡ codes "67\r\n{\"object\":{\"apiVersion\":\"v1\",\"kind\":\"ConfigMap\",\"metadata\":{\"resourceVersion\":\"3\"}},\"type\":\"BOOKMARK\"}\n\r\n")
    × (frames_text ConfigMap (initial_end 1 ∷ [])
    ≡ codes "9a\r\n{\"object\":{\"apiVersion\":\"v1\",\"kind\":\"ConfigMap\",\"metadata\":{\"annotations\":{\"k8s.io/initial-events-end\":\"true\"},\"resourceVersion\":\"1\"}},\"type\":\"BOOKMARK\"}\n\r\n")

-- the body is what follows the head, as far as its length says; what follows it is not read, and half a body is answered nothing
abbrev pub BodiesEnd : Type 0
BodiesEnd =
    let post = head 1 (codes "POST") all ((codes "Content-Length", codes "25") ∷ []) in
    (written post (codes "{\"metadata\":{\"name\":\"a\"}}GET") ≡ written post (codes "{\"metadata\":{\"name\":\"a\"}}"))
    × (written post (codes "{\"metadata\":{\"name\":\"a\"}}")
    ≡ codes "HTTP/1.1 201 Created\r\nContent-Type: application/json\r\nContent-Length: 194\r\nConnection: close\r\n\r\n{\"apiVersion\":\"v1\",\"kind\":\"ConfigMap\",\"metadata\":{\"creationTimestamp\":\"2026-01-01T00:00:00Z\",\"name\":\"a\",\"namespace\":\"default\",\"resourceVersion\":\"2\",\"uid\":\"00000000-0000-8000-8000-000000000002\"}}")
    × (written post (codes "{\"metadata\":{\"name\":\"a\"}") ≡ [])

-- a patch of what is not there is 404, and is read first
abbrev pub PatchIsRead : Type 0
PatchIsRead =
    let patch = head 1 (codes "PATCH") one ((codes "Content-Type", codes "application/merge-patch+json") ∷ (codes "Content-Length", codes "2") ∷ []) in
    (written patch (codes "{}")
    ≡ codes "HTTP/1.1 404 Not Found\r\nContent-Type: application/json\r\nContent-Length: 181\r\nConnection: close\r\n\r\n{\"apiVersion\":\"v1\",\"code\":404,\"details\":{\"kind\":\"configmaps\",\"name\":\"a\"},\"kind\":\"Status\",\"message\":\"configmaps \\\"a\\\" not found\",\"metadata\":{},\"reason\":\"NotFound\",\"status\":\"Failure\"}")

-- the phrases are the canonical ones
abbrev pub PhrasesAreCanonical : Type 0
PhrasesAreCanonical = map (λ p. Some p.1) phrases ≡ map (λ p. reason_phrase p.0) phrases
