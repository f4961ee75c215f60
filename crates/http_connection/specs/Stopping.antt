-- A reader or a writer that waits for nobody.
use Rattle.std.specs.Prelude.{Bool}
use Rattle.http_connection.specs.declared.noted.Noted.{Noted}

-- the device
abbrev pub device_in : {D : Type 0} → Noted D → D
device_in w = w.device

-- whether it has stopped: a read found the end, a write took nothing of what is not empty, or a call failed for good
abbrev pub has_stopped : {D : Type 0} → Noted D → Bool
has_stopped w = w.stopped
