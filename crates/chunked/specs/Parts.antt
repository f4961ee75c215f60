-- The parts of a body in chunks that are not its content.
use Rattle.std.specs.Prelude.{◌≡◌, ◌<◌, ◌≤◌, ℕ, List, [], ◌++◌, length, Option, ⊤}
use Rattle.std.specs.Io.KnownBytes.{Consumes}
use Rattle.httparse.specs.Grammar.{ChunkLine, IsChunkLine, print_chunk_line, ReadsChunkLine, chunk_size, NeverHasChunkLine, MayBecomeChunkLine}
use Rattle.chunked.specs.Reading.{longest_line}
use Rattle.chunked.specs.declared.fault.ChunkFault.{ChunkFault}
use Rattle.chunked.specs.declared.fault.ChunkFault.TheVariants as fault
use Rattle.chunked.specs.declared.place.BodyPlace.{BodyPlace}
use Rattle.chunked.specs.declared.place.BodyPlace.TheVariants as place

-- the input begins with the line of a chunk, which is no longer than this
abbrev pub HasLine : ℕ → List ℕ → Type 0
HasLine longest input = (l : ChunkLine) × (rest : List ℕ) × ReadsChunkLine input l rest × (length (print_chunk_line l) ≤ longest)

-- it is the line of a chunk
abbrev pub IsLine : List ℕ → Type 0
IsLine input = (l : ChunkLine) × ReadsChunkLine input l []

-- the input begins with a text, however long lines are
abbrev pub HasText : List ℕ → ℕ → List ℕ → Type 0
HasText text longest input = (rest : List ℕ) × (input ≡ text ++ rest)

-- it is the text
abbrev pub IsText : List ℕ → List ℕ → Type 0
IsText text input = input ≡ text

-- a line was read that says this size
abbrev pub ReadsSize : Option (List ℕ) → Option (List ℕ) → ℕ → Type 0
ReadsSize before after size = (l : ChunkLine) × Consumes before after (print_chunk_line l) × IsChunkLine l × (size ≡ chunk_size l) × (length (print_chunk_line l) ≤ longest_line)

-- what the end of the input makes of a line that is not whole
abbrev pub IsCutLine : List ℕ → ChunkFault → Type 0
IsCutLine bytes fault.Malformed = NeverHasChunkLine bytes
IsCutLine bytes fault.Truncated = MayBecomeChunkLine bytes
IsCutLine bytes fault.Device = ⊥
IsCutLine bytes fault.Want = ⊥

-- there are bytes to read, or the body has ended
abbrev pub IsReady : BodyPlace → Type 0
IsReady place.Line = ⊥
IsReady (place.Within n) = 0 < n
IsReady place.Ended = ⊤
