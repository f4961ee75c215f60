-- A decoder as the bytes that it has buffered, and what a piece gives.
use Rattle.std.specs.Prelude.{ℕ, List, [], ◌∷◌, ◌++◌, map, Option, Some, None, refl}
use Rattle.std.specs.Coded.{Coded, code_by, coded×, coded_option}
use Rattle.serde_json.specs.View.{view}
use Rattle.model_encodings.specs.Codes.{coded_text}
use Rattle.spec_api.specs.Frames.{Frame as Event}
use Rattle.spec_client_go.specs.ReadFrames.{Read, reading, failed, onto}
use Rattle.spec_client_go.specs.declared.frame_fault.FrameFault.{FrameFault}
use Rattle.spec_client_go.specs.contracts.frame_fault.FrameFault as fault
use Rattle.framing.specs.declared.frames.Frame.{Frame}

-- the bytes buffered of a line that is not whole, or the fault that is final
pub record Held : Type 0 where
  pub buffered : List ℕ
  pub fault : Option FrameFault

-- by which a model may hold it
abbrev pub coded_held : Coded Held
coded_held = code_by (List ℕ × Option FrameFault) (coded× coded_text (coded_option fault.the_row.coded)) (λ h. (h.buffered, h.fault)) (λ p. record { buffered = p.0; fault = p.1 }) (λ _. refl)

-- the event that a frame shows
abbrev pub event_of : Frame → Event
event_of f = record { kind = f.kind; object = view f.object }

abbrev pub events_of : List Frame → List Event
events_of fs = map event_of fs

-- nothing came yet
abbrev pub opened : Held
opened = record { buffered = []; fault = None }

-- a piece after what is buffered
abbrev pub fed_after : Option FrameFault → List ℕ → Read
fed_after None bytes = reading bytes
fed_after (Some f) bytes = failed f

abbrev pub fed : Held → List ℕ → Read
fed h piece = fed_after h.fault (h.buffered ++ piece)

-- what a decoder is after that
abbrev pub left : Read → Held
left r = record { buffered = r.buffered; fault = r.fault }

-- pieces one after another: all their frames, and what is buffered in the end
abbrev pub all_fed : Held → List (List ℕ) → Read
all_fed h [] = record { events = []; buffered = h.buffered; fault = h.fault }
all_fed h (p ∷ ps) = onto (fed h p).events (all_fed (left (fed h p)) ps)

-- frames, and then the bytes buffered, or a fault
abbrev pub given : List Event → List ℕ → Option FrameFault → Read
given es bytes fault = record { events = es; buffered = bytes; fault = fault }
