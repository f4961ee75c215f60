-- What was read of a connection, and what it asks.
use Rattle.std.specs.Prelude.{◌≡◌, ◌<◌, ◌≤◌, ◌⊎◌, ℕ, List, [], ◌++◌, length, Option, Some, None, is_some, true, Result, Ok, Err, ⊤}
use Rattle.std.specs.Io.KnownBytes.{Consumes, IsAtEnd}
use Rattle.httparse.specs.Grammar.{RequestHead, ReadsRequest}
use Rattle.spec_api.specs.Refusals.{Refusal}
use Rattle.spec_api.specs.Targets as targets
use Rattle.spec_http.specs.Heads.{head_of}
use Rattle.spec_http.specs.Checks.{Opening, checked}
use Rattle.spec_http.specs.Connections.{longest_head, asked_with_body, asked_after, Asks}
use Rattle.object_keys.specs.Faults.{refusal_of}
use Rattle.request_decoding.specs.Asked.{asked_seen}
use Rattle.http_request_head.specs.declared.fault.ReadFault.{ReadFault}
use Rattle.http_request_head.specs.declared.fault.ReadFault.TheVariants as fault
use Rattle.http_request_reader.specs.declared.received.Received.{Received}
use Rattle.http_request_reader.specs.declared.received.Received.TheVariants as received

-- what a peer asks, in the words of connections
abbrev pub said : Received → Option (Result targets.Asked Refusal)
said (received.Asked a) = Some (Ok (asked_seen a))
said (received.Refused f) = Some (Err (refusal_of f))
said received.Ended = None

-- all the bytes of a connection, where they are known, ask this
abbrev pub AsksKnown : Option (List ℕ) → Received → Type 0
AsksKnown None r = ⊤
AsksKnown (Some bytes) r = Asks bytes (said r)

-- ---- what is read

-- the bytes begin with a whole request, or with a head that is refused
abbrev pub IsWhole : List ℕ → Type 0
IsWhole bytes = (h : RequestHead) × (rest : List ℕ) × ReadsRequest bytes h rest × (is_some (asked_after (checked (head_of h)) rest) ≡ true)

-- beyond the greatest length of a head no more is read than a request needs
abbrev pub IsNeeded : List ℕ → Type 0
IsNeeded bytes = (front back : List ℕ) → bytes ≡ front ++ back → 0 < length back → longest_head ≤ length front → IsWhole front → ⊥

-- what was read; a reader that fails does so before a request is whole
abbrev pub ReadsNoMore : List ℕ → Result Received ReadFault → Type 0
ReadsNoMore bytes (Err fault.Device) = (IsWhole bytes → ⊥) × IsNeeded bytes
ReadsNoMore bytes (Err fault.Want) = IsNeeded bytes
ReadsNoMore bytes (Ok r) = IsNeeded bytes

abbrev pub Needs : Option (List ℕ) → Option (List ℕ) → Result Received ReadFault → Type 0
Needs before after result = (bytes : List ℕ) × Consumes before after bytes × ReadsNoMore bytes result

-- ---- after the head

-- what is said of a head's checks and of what was read after it
abbrev pub TellsWith : Result Opening Refusal → List ℕ → Option (List ℕ) → Result Received ReadFault → Type 0
TellsWith c rest after (Ok r) = (asked_after c rest ≡ said r) × (said r ≡ None → IsAtEnd after)
TellsWith c rest after (Err fault.Device) = asked_after c rest ≡ None
TellsWith c rest after (Err fault.Want) = ⊤

-- after a head that is refused nothing is read, and after one whose checks pass no more than its body
abbrev pub IsOfBody : Result Opening Refusal → List ℕ → List ℕ → Type 0
IsOfBody (Err f) follows more = more ≡ []
IsOfBody (Ok o) follows more = (more ≡ []) ⊎ (length (follows ++ more) ≤ o.body_length)

abbrev pub Tells : Result Opening Refusal → List ℕ → Option (List ℕ) → Option (List ℕ) → Result Received ReadFault → Type 0
Tells c follows before after result = (more : List ℕ) × Consumes before after more × IsOfBody c follows more × TellsWith c (follows ++ more) after result

-- what is asked with the body that the bytes begin with, which is whole; or out of memory
abbrev pub Says : Opening → List ℕ → Result Received ReadFault → Type 0
Says o bytes (Ok r) = (asked_with_body o bytes ≡ said r) × (said r ≡ None → ⊥)
Says o bytes (Err f) = f ≡ fault.Want
