-- What a reader of a body in chunks has read, and what is left of the body.
use Rattle.std.specs.Prelude.{◌≡◌, ◌≤◌, ℕ, List, [], ◌++◌, length, Option, Some, None, Bool, true, false, Result, Ok, Err, ⊤}
use Rattle.std.specs.Io.KnownBytes.{Consumes, IsAtEnd}
use Rattle.chunked.specs.Bodies.{IsBodyWithin, crlf, joined}
use Rattle.chunked.specs.declared.fault.ChunkFault.{ChunkFault}
use Rattle.chunked.specs.declared.fault.ChunkFault.TheVariants as fault
use Rattle.chunked.specs.declared.place.BodyPlace.{BodyPlace}
use Rattle.chunked.specs.declared.place.BodyPlace.TheVariants as place
use Rattle.chunked.specs.declared.reader.Reader.{Reader}
use Rattle.chunked.specs.Devices.{device_of, has_failed}

-- the longest line before a chunk that is read, with its CR and LF
abbrev pub longest_line : ℕ
longest_line = 256

-- at this place the input is what is left of a body, with these bytes, and then rest; no chunk's line is longer than this
abbrev pub IsLeft : ℕ → BodyPlace → List ℕ → List ℕ → List ℕ → Type 0
IsLeft longest place.Line input content rest = (chunks : List (List ℕ)) × IsBodyWithin longest chunks input rest × (content ≡ joined chunks)
IsLeft longest (place.Within n) input content rest =
    (bytes : List ℕ) × (tail : List ℕ) × (chunks : List (List ℕ)) × (length bytes ≡ n) × (input ≡ bytes ++ (crlf ++ tail)) × IsBodyWithin longest chunks tail rest
    × (content ≡ bytes ++ joined chunks)
IsLeft longest place.Ended input content rest = (content ≡ []) × (input ≡ rest)

-- the input is what is left of a body, and more
abbrev pub HasRest : BodyPlace → ℕ → List ℕ → Type 0
HasRest p longest input = (content : List ℕ) × (rest : List ℕ) × IsLeft longest p input content rest

-- the same, with lines of any length
abbrev pub HasAnyRest : BodyPlace → List ℕ → Type 0
HasAnyRest p input = (longest : ℕ) × HasRest p longest input

-- what begins with the bytes read is left of a body at one place just where what follows them is so at the other, with this content before;
-- lines of up to `longest_line` bytes are read
abbrev pub Passes : BodyPlace → List ℕ → List ℕ → BodyPlace → Type 0
Passes old read content new =
    ((longest : ℕ) (tail more rest : List ℕ) → longest_line ≤ longest → IsLeft longest new tail more rest → IsLeft longest old (read ++ tail) (content ++ more) rest)
    × ((longest : ℕ) (tail all rest : List ℕ) → IsLeft longest old (read ++ tail) all rest → (more : List ℕ) × (all ≡ content ++ more) × IsLeft longest new tail more rest)

-- content was read from one place to another
abbrev pub Reaches : BodyPlace → Option (List ℕ) → List ℕ → BodyPlace → Option (List ℕ) → Type 0
Reaches old before content new after = (read : List ℕ) × Consumes before after read × Passes old read content new

-- what was read is malformed: nothing that begins with it is P, with lines of up to `longest_line` bytes;
-- or truncated: it is all that there was, it is not P, and something that begins with it is Whole; there is always memory
abbrev pub Fails : (ℕ → List ℕ → Type 0) → (List ℕ → Type 0) → Option (List ℕ) → Option (List ℕ) → ChunkFault → Type 0
Fails P Whole before after fault.Malformed = (read : List ℕ) × Consumes before after read × ((more : List ℕ) → (P longest_line (read ++ more) → ⊥))
Fails P Whole before after fault.Truncated =
    (read : List ℕ) × Consumes before after read × IsAtEnd after × ((longest : ℕ) → (P longest read → ⊥)) × (more : List ℕ) × Whole (read ++ more)
Fails P Whole before after fault.Device = ⊤
Fails P Whole before after fault.Want = ⊥

-- no rest of a body can be read on from this place
abbrev pub Stops : BodyPlace → Option (List ℕ) → Option (List ℕ) → ChunkFault → Type 0
Stops p before after f = Fails (HasRest p) (HasAnyRest p) before after f

-- the fault that is answered by a reader with this one, if any, and this flag
abbrev pub fault_at : Option ChunkFault → Bool → Option ChunkFault
fault_at (Some f) failed = Some f
fault_at None true = Some fault.Device
fault_at None false = None

-- where a reader stands in the body
abbrev pub place_of : {R : Type 0} → Reader R → BodyPlace
place_of r = r.place

-- the fault that a call of a reader has met, if one has
abbrev pub fault_of : {R : Type 0} → Reader R → Option ChunkFault
fault_of r = r.fault

-- the fault that each call of a reader answers, if there is one: the one that it has met, or else the device's where that has failed
abbrev pub answered_fault : {R : Type 0} → Reader R → Option ChunkFault
answered_fault r = fault_at (fault_of r) (has_failed r.device)

-- what is left of a reader's input, by what is left of a device's
abbrev pub left_of : {R : Type 0} → (R → Option (List ℕ)) → Reader R → Option (List ℕ)
left_of remaining r = remaining (device_of r.device)

-- after a call of a device that had not failed: it has where the answer is the device's fault, and nowhere else
abbrev pub IsWatched : {A : Type 0} → Bool → Result A ChunkFault → Type 0
IsWatched failed (Ok a) = failed ≡ false
IsWatched failed (Err fault.Device) = failed ≡ true
IsWatched failed (Err f) = failed ≡ false
