use Rattle.std.proofs.Common.{◌≡◌, ◌++◌, map, drop}
use Rattle.spec_api.specs.Streams.{event, text_of_lines}
use Rattle.revisions.specs.Events.{event_seen}
use Rattle.line_service.proofs.lines.push_changes.Given as goal

-- the lines so far and those that are left are all
abbrev pub invariant-loop-event : goal.invariant-loop-event
invariant-loop-event l =
    l.text.items ++ text_of_lines l.kind (map event (map event_seen (drop l.event-index l.events))) ≡ l.initial.text.items ++ text_of_lines l.kind (map event (map event_seen l.events))
