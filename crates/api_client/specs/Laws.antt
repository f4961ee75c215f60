-- What follows for a server that is asked over connections.
use Rattle.std.specs.Prelude.{◌<◌, ◌≤◌, ◌^◌, ℕ, List, ◌++◌, length, Some, Ok, Err, codes, string_bytes}
use Rattle.request_encoding.specs.Scopes as scopes
use Rattle.request_encoding.specs.Seen.{scope_of}
use Rattle.request_encoding.specs.Targets.{list_target, page_target, watch_target, stream_target}
use Rattle.request_encoding.specs.ScopesTold.{IsPage, listed, paged, watched, streamed}
use Rattle.request_encoding.specs.declared.scopes.Scope.{Scope}
use Rattle.spec_api.specs.declared.kinds.Kind.{Kind}
use Rattle.spec_api.specs.Targets.{Asked}
use Rattle.spec_api.specs.ObjectRequests.{Request}
use Rattle.spec_api.specs.Refusals.{too_large}
use Rattle.spec_http.specs.Connections.{longest_head, AsksOnly}
use Rattle.spec_http.specs.Requests.{request_head}
use Rattle.request_encoding.specs.Texts.{IsPath, taken}
use Rattle.request_encoding.specs.Told.{Asks}
use Rattle.request_encoding.specs.declared.text.RequestText.{RequestText}
use Rattle.api_client.specs.Outgoing.{get_text, method_text, media_type, written}

-- the head that is written for a request of one object
abbrev pub head_written : RequestText → List ℕ
head_written t = request_head (method_text t.method) (string_bytes t.target) (codes "localhost") (media_type t.method) (length (string_bytes t.body))

-- the text is of a request, and its body is one that memory holds
abbrev pub IsText : Request → RequestText → Type 0
IsText q t = IsPath (string_bytes t.target) × Asks q t × (length (string_bytes t.body) < 2 ^ 64)

-- what is written for a request of one object asks a server for that request, or is refused as its body is too large, and nothing else, whatever follows it
abbrev pub RequestsAreAsked : Type 0
RequestsAreAsked =
    (q : Request) (t : RequestText) (rest : List ℕ) → IsText q t → length (head_written t) ≤ longest_head
    → AsksOnly (written t ++ rest) (Some (taken q (string_bytes t.body)))

-- and is refused as a whole where its head is longer than one may be
abbrev pub LongTargetsAreRefused : Type 0
LongTargetsAreRefused =
    (q : Request) (t : RequestText) (rest : List ℕ) → IsText q t → longest_head < length (head_written t) → AsksOnly (written t ++ rest) (Some (Err too_large))

-- what is written for a GET of a target asks a server for this and for nothing else, whatever follows it, where its head is no longer than one may be
abbrev pub IsAskedBy : List ℕ → Asked → Type 0
IsAskedBy target a =
    (rest : List ℕ) → length (request_head (codes "GET") target (codes "localhost") (codes "application/json") 0) ≤ longest_head → AsksOnly (get_text target ++ rest) (Some (Ok a))

-- so do those for the list, the pages, the watches and the stream of a kind in a scope
abbrev pub AreAsked : scopes.Scope → Kind → Type 0
AreAsked s k =
    IsAskedBy (list_target s k) (listed s k)
    × ((limit r : ℕ) → IsPage limit r → IsAskedBy (page_target s k limit r) (paged s k limit r))
    × ((r : ℕ) → r < 2 ^ 53 → IsAskedBy (watch_target s k r) (watched s k r))
    × IsAskedBy (stream_target s k) (streamed s k)

-- in each scope that there is
abbrev pub CollectionsAreAsked : Type 0
CollectionsAreAsked = (s : Scope) (k : Kind) → AreAsked (scope_of s) k
