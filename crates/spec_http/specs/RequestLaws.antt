-- What follows for a server that is asked by what a client writes.
use Rattle.std.specs.Prelude.{◌≡◌, ◌<◌, ◌≤◌, ◌^◌, ℕ, List, ◌++◌, length, Bool, true, Some, None, Ok, Err, IsUtf8}
use Rattle.std.specs.List.{list_all}
use Rattle.httparse.specs.Grammar.{is_uri_byte, is_value_byte, trim_ows}
use Rattle.spec_api.specs.declared.methods.Method.{Method}
use Rattle.spec_api.specs.Refusals.{too_large}
use Rattle.spec_api.specs.Targets.{Asked, read_request}
use Rattle.spec_http.specs.Heads.{method_named, takes_type, without_parameters}
use Rattle.spec_http.specs.Connections.{longest_head, AsksOnly}
use Rattle.spec_http.specs.Requests.{request_head, request_text}

-- a text that the first line of a request can hold as its target: not empty, with no blank and no control character (RFC 9112, Request Target)
abbrev pub IsTarget : List ℕ → Type 0
IsTarget t = (0 < length t) × (list_all is_uri_byte t ≡ true) × IsUtf8 t

-- a text that a field can hold as its value: with no control character but the tab (RFC 9110, Field Values)
abbrev pub is_value : List ℕ → Bool
is_value v = list_all is_value_byte v

-- the name is that of the method, each part can stand where it is written, and the method takes bodies of the media type
abbrev pub IsWritable : Method → List ℕ → List ℕ → List ℕ → List ℕ → List ℕ → Type 0
IsWritable m name target host media_type body =
    (method_named name ≡ Some m) × IsTarget target × (is_value host ≡ true) × (is_value media_type ≡ true)
    × (takes_type m (Some (without_parameters (trim_ows media_type))) ≡ true) × (length body < 2 ^ 64)

-- what a client writes for a request asks a server for that method, target and body, and for nothing else, whatever follows it
abbrev pub WrittenRequestsAreRead : Type 0
WrittenRequestsAreRead =
    (m : Method) (name target host media_type body rest : List ℕ) → IsWritable m name target host media_type body
    → length (request_head name target host media_type (length body)) ≤ longest_head
    → AsksOnly (request_text name target host media_type body ++ rest) (Some (read_request m target body))

-- one whose head is longer than a head may be is refused
abbrev pub LongRequestsAreRefused : Type 0
LongRequestsAreRefused =
    (m : Method) (name target host media_type body rest : List ℕ) → IsWritable m name target host media_type body
    → longest_head < length (request_head name target host media_type (length body))
    → AsksOnly (request_text name target host media_type body ++ rest) (Some (Err too_large))

-- cut anywhere, a request that is answered asks nothing
abbrev pub CutRequestsAskNothing : Type 0
CutRequestsAskNothing =
    (m : Method) (name target host media_type body bytes more : List ℕ) (a : Asked) → IsWritable m name target host media_type body
    → length (request_head name target host media_type (length body)) ≤ longest_head → read_request m target body ≡ Ok a
    → request_text name target host media_type body ≡ bytes ++ more → 0 < length more → AsksOnly bytes None
