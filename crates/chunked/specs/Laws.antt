-- Laws of bodies in chunks.
use Rattle.std.specs.Prelude.{◌≡◌, ◌<◌, ◌^◌, ℕ, List, [], ◌∷◌, ◌++◌, length, Option, Some}
use Rattle.std.specs.List.{AllByRecursion}
use Rattle.chunked.specs.Bodies.{IsBody, IsBodyWithin, joined, chunks_text, last_chunk}
use Rattle.chunked.specs.Reading.{Reaches, Stops, longest_line}
use Rattle.chunked.specs.declared.fault.ChunkFault.{ChunkFault}
use Rattle.chunked.specs.declared.fault.ChunkFault.TheVariants as fault
use Rattle.chunked.specs.declared.place.BodyPlace.{BodyPlace}
use Rattle.chunked.specs.declared.place.BodyPlace.TheVariants as place

-- each can be written as a chunk: it has some bytes, and their number has at most 16 digits
abbrev pub AreChunks : List (List ℕ) → Type 0
AreChunks chunks = AllByRecursion (λ bytes. (0 < length bytes) × (length bytes < 2 ^ 64)) chunks

-- these pieces were read, one call after another, from a place and an input to others
abbrev pub ReadsPieces : BodyPlace → List ℕ → List (List ℕ) → BodyPlace → List ℕ → Type 0
ReadsPieces p input [] q left = (p ≡ q) × (input ≡ left)
ReadsPieces p input (piece ∷ pieces) q left = (mid : BodyPlace) × (between : List ℕ) × Reaches p (Some input) piece mid (Some between) × ReadsPieces mid between pieces q left

-- however an input is read, its pieces are a beginning of the bytes of these chunks, they are all of them at the body's end, where rest is left,
-- and no fault but the device's comes
abbrev pub IsReadAs : List (List ℕ) → List ℕ → List ℕ → Type 0
IsReadAs chunks input rest =
    (pieces : List (List ℕ)) (p : BodyPlace) (left : List ℕ) → ReadsPieces place.Line input pieces p left
    → ((more : List ℕ) × (joined chunks ≡ joined pieces ++ more))
    × (p ≡ place.Ended → (joined pieces ≡ joined chunks) × (left ≡ rest))
    × ((after : Option (List ℕ)) (f : ChunkFault) → Stops p (Some left) after f → f ≡ fault.Device)

-- what a writer writes of chunks and at the end is a body of these chunks, whatever follows
abbrev pub WrittenIsABody : Type 0
WrittenIsABody = (chunks : List (List ℕ)) (rest : List ℕ) → AreChunks chunks → IsBodyWithin longest_line chunks (chunks_text chunks ++ (last_chunk ++ rest)) rest

-- an input begins with at most one body
abbrev pub BodiesAreOne : Type 0
BodiesAreOne = (chunks others : List (List ℕ)) (input rest left : List ℕ) → IsBody chunks input rest → IsBody others input left → (chunks ≡ others) × (rest ≡ left)

-- a body is read as what it is, if its lines are not too long
abbrev pub BodiesAreRead : Type 0
BodiesAreRead = (chunks : List (List ℕ)) (input rest : List ℕ) → IsBodyWithin longest_line chunks input rest → IsReadAs chunks input rest

-- what was written is read back
abbrev pub WrittenIsRead : Type 0
WrittenIsRead = (chunks : List (List ℕ)) (rest : List ℕ) → AreChunks chunks → IsReadAs chunks (chunks_text chunks ++ (last_chunk ++ rest)) rest

-- nothing is invented: there is a body that begins with what was read, and the bytes of each one that does begin with the pieces
abbrev pub NothingIsInvented : Type 0
NothingIsInvented =
    (pieces : List (List ℕ)) (p : BodyPlace) (input left : List ℕ) → ReadsPieces place.Line input pieces p left
    → (read : List ℕ) × (input ≡ read ++ left)
    × ((tail : List ℕ) × (chunks : List (List ℕ)) × IsBodyWithin longest_line chunks (read ++ tail) [])
    × ((tail rest : List ℕ) (chunks : List (List ℕ)) → IsBodyWithin longest_line chunks (read ++ tail) rest → (more : List ℕ) × (joined chunks ≡ joined pieces ++ more))
