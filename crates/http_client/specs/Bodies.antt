-- Bodies that a client has read.
use Rattle.std.specs.Prelude.{◌≡◌, ◌⊎◌, ◌≤◌, ℕ, List, ◌++◌, length, Option, ⊤}
use Rattle.std.specs.Io.KnownBytes.{Consumes}
use Rattle.chunked.specs.Reading.{Reaches, Stops, place_of, left_of}
use Rattle.chunked.specs.declared.fault.ChunkFault.TheVariants as fault
use Rattle.chunked.specs.declared.place.BodyPlace.TheVariants as place
use Rattle.chunked.specs.declared.reader.Reader.{Reader}
use Rattle.http_client.specs.Reading.{IfKnown, IsShorterThan}
use Rattle.http_client.specs.Replies.{IsNoBody, IsBodyLonger}
use Rattle.http_client.specs.declared.framing.Framing.{Framing}
use Rattle.http_client.specs.declared.framing.Framing.TheVariants as framing

-- bytes of the chunks were read onto what had been read
abbrev pub ReadsChunks : {R : Type 0} → (R → Option (List ℕ)) → Reader R → Reader R → List ℕ → List ℕ → Type 0
ReadsChunks remaining before after old new =
    (more : List ℕ) × (new ≡ old ++ more) × Reaches (place_of before) (left_of remaining before) more (place_of after) (left_of remaining after)

-- what the peer sent is no body in chunks, or ends before it does
abbrev pub StopsByPeer : {R : Type 0} → (R → Option (List ℕ)) → Reader R → Reader R → Type 0
StopsByPeer remaining before after =
    Stops (place_of before) (left_of remaining before) (left_of remaining after) fault.Malformed
    ⊎ Stops (place_of before) (left_of remaining before) (left_of remaining after) fault.Truncated

-- this body was read, whose end was known in this way
abbrev pub ReadsBody : Framing → Option (List ℕ) → List ℕ → Type 0
ReadsBody (framing.Length n) before body = (after : Option (List ℕ)) × Consumes before after body × (length body ≡ n)
ReadsBody framing.TooLong before body = ⊥
ReadsBody framing.Chunked before body = (after : Option (List ℕ)) × Reaches place.Line before body place.Ended after
ReadsBody framing.Other before body = ⊥

-- there is no such body
abbrev pub HasNoBody : Framing → Option (List ℕ) → Type 0
HasNoBody (framing.Length n) before = IfKnown before (IsShorterThan n)
HasNoBody framing.TooLong before = ⊥
HasNoBody framing.Chunked before = IfKnown before IsNoBody
HasNoBody framing.Other before = ⊤

-- a length that is stated is within this
abbrev pub IsStatedWithin : ℕ → Framing → Type 0
IsStatedWithin most (framing.Length n) = n ≤ most
IsStatedWithin most framing.TooLong = ⊤
IsStatedWithin most framing.Chunked = ⊤
IsStatedWithin most framing.Other = ⊤

-- it is longer than this, as its head states or as what came of its chunks is
abbrev pub HasLongBody : ℕ → Framing → Option (List ℕ) → Type 0
HasLongBody most (framing.Length n) before = ⊥
HasLongBody most framing.TooLong before = ⊤
HasLongBody most framing.Chunked before = IfKnown before (IsBodyLonger most)
HasLongBody most framing.Other before = ⊥
