-- Watches that a client opens and reads.
use Rattle.std.specs.Prelude.{◌≡◌, ◌<◌, ◌≤◌, ℕ, List, [], length, take, Option, Some, None}
use Rattle.httparse.specs.Grammar.{ResponseHead, status_code}
use Rattle.spec_http.specs.Answers.{IsChunked, fields_of}
use Rattle.chunked.specs.Reading.{Reaches, Stops, place_of, answered_fault, left_of}
use Rattle.chunked.specs.declared.fault.ChunkFault.{ChunkFault}
use Rattle.chunked.specs.declared.place.BodyPlace.TheVariants as place
use Rattle.chunked.specs.declared.reader.Reader.{Reader}
use Rattle.http_client.specs.Patience.{retry_after}
use Rattle.http_client.specs.Reading.{ReadsHead}
use Rattle.http_client.specs.declared.more.More.{More}
use Rattle.http_client.specs.declared.more.More.TheVariants as more
use Rattle.http_client.specs.declared.opening.WatchAnswer.{WatchAnswer}
use Rattle.http_client.specs.declared.opening.WatchAnswer.TheVariants as opening

-- what a head says to who asks for a watch: the watch is open, what it was to begin after is no longer known, or it is refused with this status code, and
-- how many seconds the server asks to be left alone, if it asks that
abbrev pub SaysOfWatch : ResponseHead → WatchAnswer → Type 0
SaysOfWatch h opening.Open = IsChunked h × (status_code h ≡ 200)
SaysOfWatch h opening.Expired = status_code h ≡ 410
SaysOfWatch h (opening.Refused code wait) = (status_code h ≡ code) × ¬ (code ≡ 410) × ¬ (IsChunked h × (code ≡ 200)) × (wait ≡ retry_after (fields_of h))

-- a head was read, and nothing beyond it, which says this
abbrev pub IsOpening : Option (List ℕ) → Option (List ℕ) → WatchAnswer → Type 0
IsOpening before after answer = (h : ResponseHead) × ReadsHead before after h × SaysOfWatch h answer

-- the next bytes of a watch were read, and it has no fault; or it has ended; or it has a fault from now on, which says why no more can be read
abbrev pub IsMore : {R : Type 0} → (R → Option (List ℕ)) → Reader R → Reader R → List ℕ → More → Type 0
IsMore remaining old new buf (more.Bytes n) =
    (0 < n) × (n ≤ length buf) × Reaches (place_of old) (left_of remaining old) (take n buf) (place_of new) (left_of remaining new) × (answered_fault new ≡ None)
IsMore remaining old new buf more.End =
    Reaches (place_of old) (left_of remaining old) [] place.Ended (left_of remaining new) × (place_of new ≡ place.Ended) × (answered_fault new ≡ None)
IsMore remaining old new buf more.Cut =
    (f : ChunkFault) × (answered_fault new ≡ Some f) × (answered_fault old ≡ None → Stops (place_of old) (left_of remaining old) (left_of remaining new) f)
