-- What a watch sends for an event.
use Rattle.spec_api.specs.Frames.{Frame, frame_kind}
use Rattle.meta.specs.declared.event.Event as code

-- the frame that shows an event
abbrev pub event_seen : code.Event → Frame
event_seen e = record { kind = frame_kind e.kind; object = e.object.value }
