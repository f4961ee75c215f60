-- What a client has read of a stream.
use Rattle.std.specs.Prelude.{◌≡◌, ◌<◌, ℕ, List, ◌++◌, length, Option, Some, None, Bool, true, false, Result, Ok, Err, ⊤}
use Rattle.std.specs.Io.KnownBytes.{Consumes}
use Rattle.httparse.specs.declared.spans.HeaderSpan.{HeaderSpan}
use Rattle.httparse.specs.declared.spans.ResponseSpans.{ResponseSpans}
use Rattle.httparse.specs.Grammar.{ResponseHead, IsResponseHead, print_response}
use Rattle.httparse.specs.Spans.{IsResponseAt, IsResponseWithin}
use Rattle.spec_http.specs.Answers.{IsWithinLimits, HasLength}
use Rattle.http_client.specs.declared.fault.ReplyFault.{ReplyFault}
use Rattle.http_client.specs.declared.fault.ReplyFault.TheVariants as fault

-- of bytes that are known
abbrev pub IfKnown : Option (List ℕ) → (List ℕ → Type 0) → Type 0
IfKnown None P = ⊤
IfKnown (Some bytes) P = P bytes

-- there are fewer
abbrev pub IsShorterThan : ℕ → List ℕ → Type 0
IsShorterThan n bytes = length bytes < n

-- after a call of a reader that had not failed: it has where the answer is the reader's fault, and nowhere else
abbrev pub IsWatched : {A : Type 0} → Bool → Result A ReplyFault → Type 0
IsWatched failed (Ok a) = failed ≡ false
IsWatched failed (Err fault.Device) = failed ≡ true
IsWatched failed (Err fault.NotAReply) = failed ≡ false
IsWatched failed (Err fault.TooLong) = failed ≡ false
IsWatched failed (Err fault.OutOfMemory) = failed ≡ false

-- these are the bytes from before and what was consumed
abbrev pub ReadsMore : Option (List ℕ) → Option (List ℕ) → List ℕ → List ℕ → Type 0
ReadsMore before after old new = (more : List ℕ) × (new ≡ old ++ more) × Consumes before after more

-- the bytes begin with a head within the limits, whose parts are here
abbrev pub HasFound : List ℕ → List HeaderSpan → ResponseSpans → Type 0
HasFound bytes spans found = ((h : ResponseHead) × IsResponseAt bytes spans found h × IsWithinLimits h) × IsResponseWithin bytes spans found

-- they are that head
abbrev pub IsFound : List ℕ → List HeaderSpan → ResponseSpans → Type 0
IsFound bytes spans found = HasFound bytes spans found × ((h : ResponseHead) → IsResponseAt bytes spans found h → bytes ≡ print_response h)

-- this head, which is within the limits, was read, and nothing beyond it
abbrev pub ReadsHead : Option (List ℕ) → Option (List ℕ) → ResponseHead → Type 0
ReadsHead before after h = IsResponseHead h × IsWithinLimits h × Consumes before after (print_response h)

-- the head was read, and nothing of its body, of which it states that it is longer than this
abbrev pub ReadsLongerHead : ℕ → Option (List ℕ) → Option (List ℕ) → Type 0
ReadsLongerHead most before after = (h : ResponseHead) × (n : ℕ) × ReadsHead before after h × HasLength h n × (most < n)
