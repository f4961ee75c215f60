-- Bodies in chunks, with no trailer fields (RFC 9112, Chunked Transfer Coding).
use Rattle.std.specs.Prelude.{◌≡◌, ◌<◌, ◌≤◌, ℕ, false, List, [], ◌∷◌, ◌++◌, length}
use Rattle.std.specs.Fmt.{digits}
use Rattle.httparse.specs.Grammar.{ChunkLine, print_chunk_line, ReadsChunkLine, chunk_size}

-- the end of a line: CR and LF
abbrev pub crlf : List ℕ
crlf = 13 ∷ 10 ∷ []

-- the input is a body in chunks with these bytes, and then rest, and no chunk's line is longer than this: each chunk is a line that says its size,
-- its bytes, which are some, and the end of a line; after them come a line that says 0, and an empty line
abbrev pub IsBodyWithin : ℕ → List (List ℕ) → List ℕ → List ℕ → Type 0
IsBodyWithin longest [] input rest = (l : ChunkLine) × ReadsChunkLine input l (crlf ++ rest) × (chunk_size l ≡ 0) × (length (print_chunk_line l) ≤ longest)
IsBodyWithin longest (bytes ∷ chunks) input rest =
    (l : ChunkLine) × (tail : List ℕ) × ReadsChunkLine input l (bytes ++ (crlf ++ tail)) × (chunk_size l ≡ length bytes) × (length (print_chunk_line l) ≤ longest)
    × (0 < length bytes) × IsBodyWithin longest chunks tail rest

-- the same with lines of any length
abbrev pub IsBody : List (List ℕ) → List ℕ → List ℕ → Type 0
IsBody chunks input rest = (longest : ℕ) × IsBodyWithin longest chunks input rest

-- the bytes of chunks, one after another
abbrev pub joined : List (List ℕ) → List ℕ
joined [] = []
joined (bytes ∷ chunks) = bytes ++ joined chunks

-- bytes written as a chunk: their number in lower-case hexadecimal, and themselves, each with the end of a line
abbrev pub chunk_text : List ℕ → List ℕ
chunk_text bytes = (digits 16 false (length bytes) ++ crlf) ++ (bytes ++ crlf)

-- these chunks, one after another
abbrev pub chunks_text : List (List ℕ) → List ℕ
chunks_text [] = []
chunks_text (bytes ∷ chunks) = chunk_text bytes ++ chunks_text chunks

-- what ends a body: the size 0, and an empty line
abbrev pub last_chunk : List ℕ
last_chunk = (48 ∷ crlf) ++ crlf
