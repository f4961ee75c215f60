use Rattle.std.proofs.Common.{◌≡◌, ◌++◌, map, drop}
use Rattle.http_response.specs.Frames.{change_frames}
use Rattle.revisions.specs.Events.{event_seen}
use Rattle.http_response.proofs.frames.push_changes.Given as goal

-- the frames so far and those that are left are all
abbrev pub invariant-loop-event : goal.invariant-loop-event
invariant-loop-event l = l.text.items ++ change_frames (map event_seen (drop l.event-index l.events)) ≡ l.initial.text.items ++ change_frames (map event_seen l.events)
