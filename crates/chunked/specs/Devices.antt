-- A device that is watched, and what is written where it fails.
use Rattle.std.specs.Prelude.{◌≡◌, ℕ, List, ◌++◌, Option, Bool}
use Rattle.std.specs.Io.KnownBytes.{Appends}
use Rattle.chunked.specs.declared.watched.Watched.{Watched}

-- the device that is watched
abbrev pub device_of : {D : Type 0} → Watched D → D
device_of w = w.device

-- whether a call of the device has failed
abbrev pub has_failed : {D : Type 0} → Watched D → Bool
has_failed w = w.failed

-- a beginning of the text was appended
abbrev pub AppendsBeginning : Option (List ℕ) → Option (List ℕ) → List ℕ → Type 0
AppendsBeginning old new text = (written : List ℕ) × (left : List ℕ) × Appends old new written × (written ++ left ≡ text)
