-- Bodies that are read from a connection.
use Rattle.std.specs.Prelude.{◌≡◌, ◌<◌, ℕ, List, [], ◌++◌, length, Option, Some, None, Bool, true, false, Result, Ok, Err, Vec}
use Rattle.std.specs.Io.KnownBytes.{Consumes, IsAtEnd}
use Rattle.http_request_head.specs.declared.fault.ReadFault.{ReadFault}
use Rattle.http_request_head.specs.declared.fault.ReadFault.TheVariants as fault

-- what was read after the front fills the body; or the peer, or the reader, ended before it did
abbrev pub FillsWith : List ℕ → List ℕ → List ℕ → Option (List ℕ) → Result Bool ReadFault → Type 0
FillsWith front more body after (Ok true) = body ≡ front ++ more
FillsWith front more body after (Ok false) = (length (front ++ more) < length body) × IsAtEnd after
FillsWith front more body after (Err fault.Device) = length (front ++ more) < length body
FillsWith front more body after (Err fault.Want) = ⊥

abbrev pub Fills : List ℕ → List ℕ → Option (List ℕ) → Option (List ℕ) → Result Bool ReadFault → Type 0
Fills front body before after result = (more : List ℕ) × Consumes before after more × FillsWith front more body after result

-- the reader ended before a body of this length was whole; or memory was out, and nothing was read
abbrev pub StopsShort : List ℕ → ℕ → List ℕ → ReadFault → Type 0
StopsShort front n more fault.Device = length (front ++ more) < n
StopsShort front n more fault.Want = more ≡ []

-- a whole body of this length that begins with the front, and no more, was read; or the peer ended before it was whole, or what was read stops short
abbrev pub ReadsWith : {Z : Type 0} → List ℕ → ℕ → List ℕ → Option (List ℕ) → Result (Option (Vec ℕ Z)) ReadFault → Type 0
ReadsWith front n more after (Ok (Some body)) = (body.items ≡ front ++ more) × (length body.items ≡ n)
ReadsWith front n more after (Ok None) = (length (front ++ more) < n) × IsAtEnd after
ReadsWith front n more after (Err f) = StopsShort front n more f

abbrev pub ReadsBody : {Z : Type 0} → List ℕ → ℕ → Option (List ℕ) → Option (List ℕ) → Result (Option (Vec ℕ Z)) ReadFault → Type 0
ReadsBody front n before after result = (more : List ℕ) × Consumes before after more × ReadsWith front n more after result
