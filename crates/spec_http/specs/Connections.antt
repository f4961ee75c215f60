-- What the bytes of a connection ask, up to where they end: one request, or none that is whole (RFC 9112, Message Format).
use Rattle.std.specs.Prelude.{◌≡◌, ◌≤◌, ◌<◌, ◌⊎◌, ℕ, List, take, length, nat_lt, Option, Some, None, Result, Ok, Err, if◌then◌else◌}
use Rattle.httparse.specs.Grammar.{RequestHead, print_request, ReadsRequest, HasNoRequest, NeverHasRequest, MayBecomeRequest}
use Rattle.httparse.specs.Spans.{RequestExceeds}
use Rattle.spec_api.specs.declared.refusals.Part.TheVariants as part
use Rattle.spec_api.specs.Refusals.{Refusal, bad_request, too_large}
use Rattle.spec_api.specs.Targets.{Asked, asked}
use Rattle.spec_http.specs.Heads.{head_of}
use Rattle.spec_http.specs.Checks.{Opening, checked}

-- the greatest length of a head, its empty line counted
abbrev pub longest_head : ℕ
longest_head = 16384

-- the most fields that a head has
abbrev pub most_fields : ℕ
most_fields = 64

-- a head within both limits
abbrev pub IsWithinLimits : RequestHead → Type 0
IsWithinLimits h = (length (print_request h) ≤ longest_head) × (length h.fields ≤ most_fields)

-- what is asked with the body that the bytes after a head begin with; nothing, where they end before it does
abbrev pub asked_with_body : Opening → List ℕ → Option (Result Asked Refusal)
asked_with_body o rest = if nat_lt (length rest) o.body_length then None else Some (asked o.method o.route o.query (take o.body_length rest))

-- a head that is refused needs no body
abbrev pub asked_after : Result Opening Refusal → List ℕ → Option (Result Asked Refusal)
asked_after (Err f) rest = Some (Err f)
asked_after (Ok o) rest = asked_with_body o rest

-- the bytes begin with a head within the limits, and what it asks is this
abbrev pub AsksByHead : List ℕ → Option (Result Asked Refusal) → Type 0
AsksByHead bytes said = (h : RequestHead) × (rest : List ℕ) × ReadsRequest bytes h rest × IsWithinLimits h × (said ≡ asked_after (checked (head_of h)) rest)

-- the bytes begin with no head of the length that one may have, or with more whole fields than one may have
abbrev pub IsHeadTooLarge : List ℕ → Type 0
IsHeadTooLarge bytes = ((longest_head ≤ length bytes) × HasNoRequest (take longest_head bytes)) ⊎ RequestExceeds most_fields bytes

-- the bytes are within both limits, and end before a head does that they may begin
abbrev pub IsHalfAHead : List ℕ → Type 0
IsHalfAHead bytes = (length bytes < longest_head) × HasNoRequest bytes × MayBecomeRequest bytes × (RequestExceeds most_fields bytes → ⊥)

-- what the bytes of a connection ask, or why it is refused; nothing, where they end before the request is whole. A request that is refused by its
-- head is whole where the head ends, where it passes a limit, or where nothing can follow that makes it a head. Bytes that nothing makes a
-- head and that pass a limit too may be refused for either; nor is it settled of bytes that end in a target, which no text can be, whether
-- they are refused
abbrev pub Asks : List ℕ → Option (Result Asked Refusal) → Type 0
Asks bytes said =
    AsksByHead bytes said
    ⊎ (NeverHasRequest bytes × (said ≡ Some (Err (bad_request part.Head))))
    ⊎ (IsHeadTooLarge bytes × (said ≡ Some (Err too_large)))
    ⊎ (IsHalfAHead bytes × (said ≡ None))

-- this is asked, and nothing else
abbrev pub AsksOnly : List ℕ → Option (Result Asked Refusal) → Type 0
AsksOnly bytes said = Asks bytes said × ((other : Option (Result Asked Refusal)) → Asks bytes other → other ≡ said)
