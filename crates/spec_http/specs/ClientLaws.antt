-- What follows for a client and a server that speak with one another.
use Rattle.std.specs.Prelude.{◌≡◌, ◌<◌, ◌≤◌, ◌^◌, ℕ, List, [], ◌++◌, length, map, Option, Some}
use Rattle.spec_api.specs.declared.kinds.Kind.{Kind}
use Rattle.spec_api.specs.Frames.{frame_text}
use Rattle.spec_api.specs.Streams.{Line, frame_of}
use Rattle.chunked.specs.Bodies.{joined, chunks_text, last_chunk}
use Rattle.chunked.specs.Laws.{AreChunks, ReadsPieces}
use Rattle.chunked.specs.Reading.{Stops}
use Rattle.chunked.specs.declared.fault.ChunkFault.{ChunkFault}
use Rattle.chunked.specs.declared.fault.ChunkFault.TheVariants as fault
use Rattle.chunked.specs.declared.place.BodyPlace.{BodyPlace}
use Rattle.chunked.specs.declared.place.BodyPlace.TheVariants as place
use Rattle.spec_http.specs.Replies.{response_text, watch_head, watch_text}
use Rattle.spec_http.specs.Answers.{Replied, Says, OpensWatch, IsWatchOf}

-- a reply that a server can write: a status code of three digits (RFC 9110, Status Codes), and a body whose length is a number of 64 bits
abbrev pub IsReply : Replied → Type 0
IsReply r = (100 ≤ r.code) × (r.code < 1000) × (length r.body < 2 ^ 64)

-- the bytes say at most one reply, and open no watch
abbrev pub OneReplyIsSaid : Type 0
OneReplyIsSaid = (bytes : List ℕ) (r s : Replied) → Says bytes r → Says bytes s → r ≡ s

abbrev pub RepliesOpenNoWatch : Type 0
RepliesOpenNoWatch = (bytes body : List ℕ) (r : Replied) → Says bytes r → OpensWatch bytes body → ⊥

-- what more bytes follow makes no difference
abbrev pub WholeRepliesStay : Type 0
WholeRepliesStay = (bytes more : List ℕ) (r : Replied) → Says bytes r → Says (bytes ++ more) r

-- what is written for a reply is read as that reply, whatever follows it
abbrev pub WrittenRepliesAreRead : Type 0
WrittenRepliesAreRead = (r : Replied) (rest : List ℕ) → IsReply r → Says (response_text r.code r.body ++ rest) r

-- cut anywhere, it is read as none
abbrev pub CutRepliesAreLost : Type 0
CutRepliesAreLost = (r s : Replied) (bytes more : List ℕ) → IsReply r → response_text r.code r.body ≡ bytes ++ more → 0 < length more → Says bytes s → ⊥

-- what is written for a watch is read as a watch of its frames, each a chunk
abbrev pub WrittenWatchesAreRead : Type 0
WrittenWatchesAreRead = (k : Kind) (lines : List Line) → AreChunks (map (λ l. frame_text (frame_of k l)) lines) → IsWatchOf (watch_text k lines) (map (λ l. frame_text (frame_of k l)) lines)

-- what is written for a watch of these chunks
abbrev pub chunks_written : List (List ℕ) → List ℕ
chunks_written chunks = watch_head ++ (chunks_text chunks ++ last_chunk)

-- after the head of what is written for a watch, or of a beginning of it, whatever pieces are read are a beginning of the chunks' bytes; at the end
-- they are all of them, and nothing of the watch was cut; and of a whole watch no fault comes but the device's
abbrev pub WatchesAreReadInPieces : Type 0
WatchesAreReadInPieces =
    (chunks : List (List ℕ)) (bytes more rest : List ℕ) (pieces : List (List ℕ)) (p : BodyPlace) (left : List ℕ) → AreChunks chunks → chunks_written chunks ≡ bytes ++ more
    → OpensWatch bytes rest → ReadsPieces place.Line rest pieces p left
    → ((beyond : List ℕ) × (joined chunks ≡ joined pieces ++ beyond))
    × (p ≡ place.Ended → (joined pieces ≡ joined chunks) × (more ≡ []))
    × ((after : Option (List ℕ)) (f : ChunkFault) → more ≡ [] → Stops p (Some left) after f → f ≡ fault.Device)
