-- What is written for an answer (RFC 9112, Message Format).
use Rattle.std.specs.Prelude.{ℕ, List, [], ◌∷◌, ◌++◌, length, map, codes, decimal, Option, Some, None, Result, if◌then◌else◌, ◌==◌}
use Rattle.serde_json.specs.Written.{compact_text}
use Rattle.spec_api.specs.declared.kinds.Kind.{Kind}
use Rattle.spec_api.specs.Frames.{frame_text}
use Rattle.spec_api.specs.Replies.{Reply, outcome, shown, compacted}
use Rattle.spec_api.specs.Refusals.{Refusal, success_body}
use Rattle.spec_api.specs.Streams.{Line, frame_of}
use Rattle.spec_api.specs.Targets.{Asked}
use Rattle.spec_api.specs.Verbs.{outcome_code, outcome_body}
use Rattle.chunked.specs.Bodies.{crlf, chunks_text, last_chunk}

-- a line of a head
abbrev pub line : List ℕ → List ℕ
line text = text ++ crlf

-- the phrases of the status codes that are answered (RFC 9110, Status Codes; RFC 4918, 507 Insufficient Storage)
abbrev pub phrases : List (ℕ × List ℕ)
phrases =
    (200, codes "OK")
    ∷ (201, codes "Created")
    ∷ (202, codes "Accepted")
    ∷ (400, codes "Bad Request")
    ∷ (404, codes "Not Found")
    ∷ (405, codes "Method Not Allowed")
    ∷ (409, codes "Conflict")
    ∷ (410, codes "Gone")
    ∷ (411, codes "Length Required")
    ∷ (413, codes "Payload Too Large")
    ∷ (415, codes "Unsupported Media Type")
    ∷ (422, codes "Unprocessable Entity")
    ∷ (503, codes "Service Unavailable")
    ∷ (504, codes "Gateway Timeout")
    ∷ (507, codes "Insufficient Storage")
    ∷ []

abbrev pub phrase_in : List (ℕ × List ℕ) → ℕ → List ℕ
phrase_in [] code = []
phrase_in (p ∷ ps) code = if code == p.0 then p.1 else phrase_in ps code

-- the phrase of a status code
abbrev pub phrase : ℕ → List ℕ
phrase code = phrase_in phrases code

-- the head of a reply, with a field that says where its body ends; the connection is closed after it (RFC 9112, Tear-down)
abbrev pub head_text : ℕ → List ℕ → List ℕ
head_text code framing =
    line (codes "HTTP/1.1 " ++ (decimal code ++ (32 ∷ phrase code)))
    ++ (line (codes "Content-Type: application/json") ++ (line framing ++ (line (codes "Connection: close") ++ crlf)))

-- a reply whose body is known (RFC 9110, Content-Length)
abbrev pub response_text : ℕ → List ℕ → List ℕ
response_text code body = head_text code (codes "Content-Length: " ++ decimal (length body)) ++ body

-- the head of a watch, whose body comes in chunks (RFC 9112, Transfer-Encoding)
abbrev pub watch_head : List ℕ
watch_head = head_text 200 (codes "Transfer-Encoding: chunked")

-- each line of a watch is a chunk
abbrev pub frames_text : Kind → List Line → List ℕ
frames_text k lines = chunks_text (map (λ l. frame_text (frame_of k l)) lines)

abbrev pub watch_text : Kind → List Line → List ℕ
watch_text k lines = watch_head ++ (frames_text k lines ++ last_chunk)

-- what is written for an answer: of an outcome its code and its body, of a watch its lines, of a compaction a success
abbrev pub reply_text : Reply → List ℕ
reply_text (outcome o) = response_text (outcome_code o) (compact_text (outcome_body o))
reply_text (shown k lines) = watch_text k lines
reply_text (compacted h) = response_text 200 (compact_text (success_body None))

-- nothing is written where nothing is asked
abbrev pub text_for : (Result Asked Refusal → Reply) → Option (Result Asked Refusal) → List ℕ
text_for reply None = []
text_for reply (Some asked) = reply_text (reply asked)
