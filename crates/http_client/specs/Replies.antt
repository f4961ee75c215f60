-- Replies that a client has read.
use Rattle.std.specs.Prelude.{◌≡◌, ◌⊎◌, ◌<◌, ℕ, List, length, Option}
use Rattle.std.specs.Io.KnownBytes.{Consumes}
use Rattle.httparse.specs.Grammar.{ResponseHead, ReadsResponse, status_code}
use Rattle.chunked.specs.Bodies.{IsBodyWithin, joined}
use Rattle.chunked.specs.Reading.{longest_line}
use Rattle.spec_http.specs.Answers.{Replied, Says, IsWithinLimits, HasLength, IsChunked}
use Rattle.http_client.specs.Heads.{StatesLonger}
use Rattle.http_client.specs.declared.reply.HttpReply.{HttpReply}

-- a reply, in the words of exchanges
abbrev pub replied : HttpReply → Replied
replied r = record { code = r.code; body = r.body.items }

-- the bytes are a reply and nothing more: a head within the limits, and the body whose length it states
abbrev pub IsReplyText : List ℕ → Replied → Type 0
IsReplyText bytes r = (h : ResponseHead) × ReadsResponse bytes h r.body × IsWithinLimits h × HasLength h (length r.body) × (status_code h ≡ r.code)

-- this reply was read, and nothing beyond it
abbrev pub ReadsReply : Option (List ℕ) → Option (List ℕ) → Replied → Type 0
ReadsReply before after r = (bytes : List ℕ) × Consumes before after bytes × IsReplyText bytes r

-- the bytes are no body in chunks, whose lines have up to `longest_line` bytes, and more
abbrev pub IsNoBody : List ℕ → Type 0
IsNoBody bytes = (chunks : List (List ℕ)) (rest : List ℕ) → IsBodyWithin longest_line chunks bytes rest → ⊥

-- the bytes begin with a whole reply whose body comes in chunks: a head within the limits, and all of its chunks (RFC 9112, Chunked Transfer Coding)
abbrev pub SaysInChunks : List ℕ → Replied → Type 0
SaysInChunks bytes r =
    (h : ResponseHead) × (body : List ℕ) × (rest : List ℕ) × (chunks : List (List ℕ)) × ReadsResponse bytes h body × IsWithinLimits h × IsChunked h
    × IsBodyWithin longest_line chunks body rest × (r.body ≡ joined chunks) × (status_code h ≡ r.code)

-- the bytes begin with a whole reply, however the end of its body is known
abbrev pub SaysWhole : List ℕ → Replied → Type 0
SaysWhole bytes r = Says bytes r ⊎ SaysInChunks bytes r

-- they begin with none
abbrev pub SaysNoReply : List ℕ → Type 0
SaysNoReply bytes = (r : Replied) → SaysWhole bytes r → ⊥

-- the bytes begin with no body in chunks but longer ones
abbrev pub IsBodyLonger : ℕ → List ℕ → Type 0
IsBodyLonger most bytes = (chunks : List (List ℕ)) (rest : List ℕ) → IsBodyWithin longest_line chunks bytes rest → most < length (joined chunks)

-- the bytes begin with a head within the limits, and the body that it states, or that comes in chunks, is longer than this
abbrev pub IsLonger : ℕ → List ℕ → Type 0
IsLonger most bytes =
    StatesLonger most bytes
    ⊎ ((h : ResponseHead) × (body : List ℕ) × ReadsResponse bytes h body × IsWithinLimits h × IsChunked h × IsBodyLonger most body)
