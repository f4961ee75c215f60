use Rattle.std.proofs.Common.{◌≡◌, ◌++◌, map, drop}
use Rattle.meta.specs.Members.{member_of}
use Rattle.revisions.specs.Events.{event_seen}
use Rattle.spec_api.specs.WatchReplies.{added_events}
use Rattle.server.proofs.initials.added_events.Given as goal

-- the events so far and those of the objects that are left are all
abbrev pub invariant-loop-member : goal.invariant-loop-member
invariant-loop-member l = map event_seen l.events.items ++ added_events l.revision (map member_of (drop l.member-index l.members)) ≡ added_events l.revision (map member_of l.members)
