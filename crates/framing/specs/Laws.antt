-- Laws of lines and frames.
use Rattle.std.specs.Prelude.{◌++◌, ◌≡◌, ◌<◌, ◌↔◌, ℕ, List, flat_map, length, None, IsOk}
use Rattle.std.specs.List.{AllByRecursion}
use Rattle.spec_api.specs.Frames.{Frame, frame_text}
use Rattle.spec_client_go.specs.ReadFrames.{lines, rest, reading, line_read, longest_frame}
use Rattle.framing.specs.Lines.{Splits}
use Rattle.framing.specs.Texts.{ReadsAs, ReadsAll}
use Rattle.framing.specs.Decoders.{opened, all_fed}

-- bytes are their whole lines, and then less than one, and in no other way
abbrev pub LinesAreWhole : Type 0
LinesAreWhole =
    (bytes : List ℕ) → Splits bytes (lines bytes) (rest bytes) × ((ls : List (List ℕ)) (left : List ℕ) → Splits bytes ls left → (ls ≡ lines bytes) × (left ≡ rest bytes))

-- however the bytes are cut into pieces, all that is given and all that is buffered is as when they come at once
abbrev pub NoCuttingMatters : Type 0
NoCuttingMatters = (pieces : List (List ℕ)) → all_fed opened pieces ≡ reading (flat_map (λ p. p) pieces)

-- there is no fault just where each whole line is a frame and what follows leaves room for its newline
abbrev pub FaultsAreLines : Type 0
FaultsAreLines =
    (bytes : List ℕ) → ((reading bytes).fault ≡ None) ↔ (AllByRecursion (λ l. IsOk (line_read l)) (lines bytes) × (length (rest bytes) < longest_frame))

-- the lines of frames that can be read are read as these frames, whatever follows
abbrev pub LinesAreRead : Type 0
LinesAreRead = (es : List Frame) → AllByRecursion (λ e. ReadsAs (frame_text e) e) es → ReadsAll (flat_map frame_text es) es

-- a stream that is cut gave a beginning of what the whole would have given
abbrev pub CutsAreBeginnings : Type 0
CutsAreBeginnings = (bytes more : List ℕ) → (later : List Frame) × ((reading (bytes ++ more)).events ≡ (reading bytes).events ++ later)
