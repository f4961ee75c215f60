-- What was read of a connection.
use Rattle.std.specs.Prelude.{◌≡◌, ℕ, List, ◌++◌, Option, Bool, true, false, Result, Ok, Err}
use Rattle.std.specs.Io.KnownBytes.{Consumes}
use Rattle.httparse.specs.declared.spans.HeaderSpan.{HeaderSpan}
use Rattle.httparse.specs.Grammar.{RequestHead, NeverHasRequest}
use Rattle.httparse.specs.Spans.{IsRequestAt, IsRequestWithin}
use Rattle.spec_http.specs.Connections.{IsWithinLimits, IsHeadTooLarge, IsHalfAHead}
use Rattle.http_request_head.specs.declared.fault.ReadFault.{ReadFault}
use Rattle.http_request_head.specs.declared.fault.ReadFault.TheVariants as fault
use Rattle.http_request_head.specs.declared.found.FoundHead.{FoundHead}
use Rattle.http_request_head.specs.declared.found.FoundHead.TheVariants as found

-- what the bytes begin with
abbrev pub IsFound : List ℕ → List HeaderSpan → FoundHead → Type 0
IsFound bytes fields (found.Whole spans) = ((h : RequestHead) × IsRequestAt bytes fields spans h × IsWithinLimits h) × IsRequestWithin bytes fields spans
IsFound bytes fields found.IllFormed = NeverHasRequest bytes
IsFound bytes fields found.TooLarge = IsHeadTooLarge bytes
IsFound bytes fields found.Cut = IsHalfAHead bytes

-- these are the bytes from before and what was consumed
abbrev pub Reads : Option (List ℕ) → Option (List ℕ) → List ℕ → List ℕ → Type 0
Reads before after old new = (more : List ℕ) × (new ≡ old ++ more) × Consumes before after more

-- after a call of a reader that had not failed: it has where the answer is the reader's fault, and nowhere else
abbrev pub IsWatched : {A : Type 0} → Bool → Result A ReadFault → Type 0
IsWatched failed (Ok a) = failed ≡ false
IsWatched failed (Err fault.Device) = failed ≡ true
IsWatched failed (Err fault.Want) = failed ≡ false
