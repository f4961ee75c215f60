-- A request that is not whole.
use Rattle.std.specs.Prelude.{◌≡◌, ◌⊎◌, ℕ, List, ◌++◌, Bool, true, Option, Some, None, Ok, Err, ⊤}
use Rattle.std.specs.Io.KnownBytes.{Consumes}
use Rattle.spec_api.specs.Refusals.{Refusal, no_memory}
use Rattle.spec_api.specs.Replies.{outcome}
use Rattle.spec_api.specs.Targets as targets
use Rattle.spec_api.specs.Verbs.{refused}
use Rattle.request_decoding.specs.Asked.{asked_seen}
use Rattle.spec_http.specs.Connections.{IsHalfAHead, Asks}
use Rattle.spec_http.specs.Replies.{reply_text}
use Rattle.http_request_reader.specs.Arriving.{WaitsFor}
use Rattle.api.specs.Responding.{text_of, IsReplyTo}
use Rattle.api.specs.declared.served.Served.TheVariants as served
use Rattle.http_connection.specs.declared.arriving.Arriving.{Arriving}
use Rattle.http_connection.specs.declared.arriving.Awaited.{Awaited}
use Rattle.http_connection.specs.declared.arriving.Awaited.TheVariants as awaited
use Rattle.http_connection.specs.declared.phase.ConnectionPhase.{ConnectionPhase}
use Rattle.http_connection.specs.declared.phase.ConnectionPhase.TheVariants as phase

-- there are bytes that ask this
abbrev pub IsAskedBySome : targets.Asked → Type 0
IsAskedBySome a = ∥ ((read : List ℕ) × Asks read (Some (Ok a))) ∥₁

-- these bytes are no whole request, nor are they refused, nor with more, before what is awaited has come
abbrev pub Awaits : Awaited → List ℕ → Type 0
Awaits awaited.HeadEnd bytes = IsHalfAHead bytes
Awaits (awaited.Bytes n) bytes = WaitsFor bytes n

-- these bytes were read, which are no whole request and may become one
abbrev pub IsArriving : Arriving → List ℕ → Type 0
IsArriving a read = (a.bytes.items ≡ read) × Awaits a.awaited read

-- a connection of which these bytes were read, and nothing was done for it, is to be written that: a refusal, or that memory ran out
abbrev pub IsRefusal : List ℕ → List ℕ → Type 0
IsRefusal read text = (text ≡ reply_text (outcome (refused no_memory))) ⊎ ((f : Refusal) × Asks read (Some (Err f)) × IsReplyTo (refused f) text)

-- where a connection stands of which these bytes were read, and nothing was written or done: it is closed only where its peer sends no more, and the bytes
-- ask nothing
abbrev pub Arrives : Bool → List ℕ → ConnectionPhase → Type 0
Arrives no_more read (phase.Reading a) = IsArriving a read
Arrives no_more read (phase.Asked a) = Asks read (Some (Ok (asked_seen a)))
Arrives no_more read phase.Answering = ⊥
Arrives no_more read (phase.Replying r) = IsRefusal read (text_of r.text) × (r.taken ≡ 0) × (r.served ≡ served.NotAsked)
Arrives no_more read (phase.Listing l) = ⊥
Arrives no_more read (phase.Watching w) = ⊥
Arrives no_more read (phase.Closing s) = (s ≡ served.NotAsked) × (no_more ≡ true) × Asks read None

-- some more was read of a connection of which nothing was written
abbrev pub ReadsOn : Bool → Option (List ℕ) → Option (List ℕ) → List ℕ → ConnectionPhase → Type 0
ReadsOn no_more before after read phase = (more : List ℕ) × Consumes before after more × Arrives no_more (read ++ more) phase

-- some bytes have led to where a connection stands whose request is being read, or is whole: of the second these ask it
abbrev pub HasLed : ConnectionPhase → Type 0
HasLed (phase.Reading a) = (read : List ℕ) × IsArriving a read
HasLed (phase.Asked a) = (read : List ℕ) × Asks read (Some (Ok (asked_seen a)))
HasLed phase.Answering = ⊤
HasLed (phase.Replying r) = ⊤
HasLed (phase.Listing l) = ⊤
HasLed (phase.Watching w) = ⊤
HasLed (phase.Closing s) = ⊤

abbrev pub MayStand : ConnectionPhase → Type 0
MayStand p = ∥ HasLed p ∥₁
