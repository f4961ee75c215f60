-- What the bytes that come over a client's connection say (RFC 9112, Message Format; RFC 9110, Status Codes).
use Rattle.std.specs.Prelude.{◌≡◌, ◌≤◌, ℕ, List, [], ◌∷◌, ◌++◌, length, map, codes, Some, true}
use Rattle.std.specs.Str.{str_eq_ignore_ascii_case}
use Rattle.httparse.specs.Grammar.{ResponseHead, print_response, ReadsResponse, status_code}
use Rattle.httparse.specs.Spans.{name_and_value}
use Rattle.chunked.specs.Bodies.{IsBody}
use Rattle.spec_http.specs.Heads.{Field, values_of, length_in}
use Rattle.spec_http.specs.Connections.{longest_head, most_fields}

-- a reply: its status code and its body
pub record Replied : Type 0 where
  pub code : ℕ
  pub body : List ℕ

-- the names and the values of a head's fields
abbrev pub fields_of : ResponseHead → List Field
fields_of h = map name_and_value h.fields

-- a head within both limits, which are those of requests
abbrev pub IsWithinLimits : ResponseHead → Type 0
IsWithinLimits h = (length (print_response h) ≤ longest_head) × (length h.fields ≤ most_fields)

-- the transfer codings that a head names (RFC 9112, Transfer-Encoding)
abbrev pub transfer_codings : ResponseHead → List (List ℕ)
transfer_codings h = values_of (codes "transfer-encoding") (fields_of h)

-- the head states that its body has this length (RFC 9110, Content-Length)
abbrev pub HasLength : ResponseHead → ℕ → Type 0
HasLength h n = (transfer_codings h ≡ []) × (length_in (values_of (codes "content-length") (fields_of h)) ≡ Some (Some n))

-- the head states that its body comes in chunks; case does not count in codings (RFC 9112, Transfer Codings)
abbrev pub IsChunked : ResponseHead → Type 0
IsChunked h = (coding : List ℕ) × (transfer_codings h ≡ coding ∷ []) × (str_eq_ignore_ascii_case coding (codes "chunked") ≡ true)

-- the bytes begin with a whole reply, which is this: a head within the limits, and all the body that it states. Bytes that begin with none are of
-- an answer that is lost
abbrev pub Says : List ℕ → Replied → Type 0
Says bytes r =
    (h : ResponseHead) × (rest : List ℕ) × ReadsResponse bytes h (r.body ++ rest) × IsWithinLimits h × HasLength h (length r.body) × (status_code h ≡ r.code)

-- the bytes begin with the head of a watch that was opened, and go on with these
abbrev pub OpensWatch : List ℕ → List ℕ → Type 0
OpensWatch bytes rest = (h : ResponseHead) × ReadsResponse bytes h rest × IsWithinLimits h × IsChunked h × (status_code h ≡ 200)

-- the bytes are a whole watch, whose chunks are these
abbrev pub IsWatchOf : List ℕ → List (List ℕ) → Type 0
IsWatchOf bytes chunks = (body : List ℕ) × OpensWatch bytes body × IsBody chunks body []
