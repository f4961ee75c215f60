-- What one line was read as.
use Rattle.std.specs.Prelude.{◌≡◌, Result, Ok, Err}
use Rattle.spec_api.specs.Frames.{Frame as Event}
use Rattle.spec_client_go.specs.declared.frame_fault.FrameFault.{FrameFault}
use Rattle.framing.specs.Decoders.{event_of}
use Rattle.framing.specs.declared.frames.Frame.{Frame}

-- the frame or the fault of this reading
abbrev pub IsRead : Result Frame FrameFault → Result Event FrameFault → Type 0
IsRead (Ok f) r = Ok (event_of f) ≡ r
IsRead (Err e) r = Err e ≡ r
