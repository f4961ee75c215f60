use Rattle.std.proofs.Common.{◌≡◌, ◌++◌, map, drop, string_bytes}
use Rattle.revisions.specs.Events.{event_seen}
use Rattle.sim_followers.specs.Openings.{added_text}
use Rattle.sim_followers.proofs.openings.added_text.Given as goal

-- with what is still to be written, it is all
abbrev pub invariant-loop-event : goal.invariant-loop-event
invariant-loop-event l = string_bytes l.text ++ added_text (map event_seen (drop l.event-index l.events)) ≡ added_text (map event_seen l.events)
