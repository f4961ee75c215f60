-- What a head that was found says of the whole connection.
use Rattle.std.specs.Prelude.{◌≡◌, ℕ, List, [], ◌++◌, drop, Some, None, Err}
use Rattle.httparse.specs.declared.spans.HeaderSpan.{HeaderSpan}
use Rattle.httparse.specs.Grammar.{RequestHead}
use Rattle.httparse.specs.Spans.{IsRequestAt}
use Rattle.spec_api.specs.declared.refusals.Part.TheVariants as part
use Rattle.spec_api.specs.Refusals.{bad_request, too_large}
use Rattle.spec_http.specs.Heads.{head_of}
use Rattle.spec_http.specs.Checks.{checked}
use Rattle.spec_http.specs.Connections.{asked_after, Asks}
use Rattle.http_request_head.specs.Reading.{IsFound}
use Rattle.http_request_head.specs.declared.found.FoundHead.{FoundHead}
use Rattle.http_request_head.specs.declared.found.FoundHead.TheVariants as found

-- what a connection asks that goes on with `more` after the bytes that were read: what the head asks with what follows it, or a refusal; of a part of
-- a head nothing, if nothing follows
abbrev pub AsksAsFound : List ℕ → List HeaderSpan → FoundHead → List ℕ → Type 0
AsksAsFound bytes fields (found.Whole spans) more =
    (h : RequestHead) → IsRequestAt bytes fields spans h → Asks (bytes ++ more) (asked_after (checked (head_of h)) (drop spans.len bytes ++ more))
AsksAsFound bytes fields found.IllFormed more = Asks (bytes ++ more) (Some (Err (bad_request part.Head)))
AsksAsFound bytes fields found.TooLarge more = Asks (bytes ++ more) (Some (Err too_large))
AsksAsFound bytes fields found.Cut more = more ≡ [] → Asks (bytes ++ more) None

abbrev pub FoundHeadsAsk : Type 0
FoundHeadsAsk = (bytes : List ℕ) (fields : List HeaderSpan) (f : FoundHead) (more : List ℕ) → IsFound bytes fields f → AsksAsFound bytes fields f more
