-- What a call of a writer does to its device.
use Rattle.std.specs.Prelude.{◌≡◌, ◌⊎◌, ℕ, List, Option, Result, Ok, Err, true, false}
use Rattle.std.specs.Io.KnownBytes.{Appends}
use Rattle.chunked.specs.Devices.{AppendsBeginning, device_of, has_failed}
use Rattle.chunked.specs.declared.fault.ChunkFault.{ChunkFault}
use Rattle.chunked.specs.declared.fault.ChunkFault.TheVariants as fault
use Rattle.chunked.specs.declared.watched.Watched.{Watched}

-- the text was written whole to a device that had not failed, and has not failed now; or the device had failed before, and nothing was
-- written; or it failed in this call, and a beginning was written
abbrev pub WritesInPlace : {D : Type 0} → List ℕ → (D → Option (List ℕ)) → Watched D → Watched D → Result (Unit {0}) ChunkFault → Type 0
WritesInPlace text contents old new (Ok u) = (has_failed old ≡ false) × (has_failed new ≡ false) × Appends (contents (device_of old)) (contents (device_of new)) text
WritesInPlace text contents old new (Err fault.Device) =
    ((has_failed old ≡ true) × (new ≡ old)) ⊎ ((has_failed old ≡ false) × (has_failed new ≡ true) × AppendsBeginning (contents (device_of old)) (contents (device_of new)) text)
WritesInPlace text contents old new (Err fault.Malformed) = ⊥
WritesInPlace text contents old new (Err fault.Truncated) = ⊥
WritesInPlace text contents old new (Err fault.Want) = ⊥

-- the same, or there was no memory on a device that had not failed, and nothing changed
abbrev pub Writes : {D : Type 0} → List ℕ → (D → Option (List ℕ)) → Watched D → Watched D → Result (Unit {0}) ChunkFault → Type 0
Writes text contents old new (Err fault.Want) = (has_failed old ≡ false) × (new ≡ old)
Writes text contents old new (Ok u) = WritesInPlace text contents old new (Ok u)
Writes text contents old new (Err fault.Device) = WritesInPlace text contents old new (Err fault.Device)
Writes text contents old new (Err fault.Malformed) = ⊥
Writes text contents old new (Err fault.Truncated) = ⊥
