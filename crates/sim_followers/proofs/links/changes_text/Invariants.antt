use Rattle.std.proofs.Common.{◌≡◌, ◌++◌, map, drop, string_bytes}
use Rattle.spec_api.specs.Streams.{event as change, text_of_lines}
use Rattle.revisions.specs.Events.{event_seen}
use Rattle.sim_followers.proofs.links.changes_text.Given as goal

-- with what is still to be written, it is all
abbrev pub invariant-loop-event : goal.invariant-loop-event
invariant-loop-event l =
    string_bytes l.text ++ text_of_lines l.fn.kind (map change (map event_seen (drop l.event-index l.events))) ≡ text_of_lines l.fn.kind (map change (map event_seen l.events))
