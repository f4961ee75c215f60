-- The lines of a watch as the definitions say them, and the line where there was no memory.
use Rattle.std.specs.Prelude.{ℕ, List}
use Rattle.spec_api.specs.Refusals.{no_memory}
use Rattle.spec_api.specs.Replies.{outcome}
use Rattle.spec_api.specs.Streams as streams
use Rattle.spec_api.specs.Streams.{event as change, bookmark, initial, initial_end}
use Rattle.spec_api.specs.Verbs.{refused}
use Rattle.spec_line_protocol.specs.Lines.{reply_text}
use Rattle.meta.specs.Members.{member_of}
use Rattle.revisions.specs.Events.{event_seen}
use Rattle.line_service.specs.declared.lines.Shown.{Shown}
use Rattle.line_service.specs.declared.lines.Shown.TheVariants.{Change, Bookmark, Initial, InitialEnd}

-- the line as the definitions say it
abbrev pub line_seen : Shown → streams.Line
line_seen (Change event) = change (event_seen event.now)
line_seen (Bookmark revision) = bookmark revision
line_seen (Initial member) = initial (member_of member).0 (member_of member).1
line_seen (InitialEnd revision) = initial_end revision

-- the line by which it is told that there was no memory for a request
abbrev pub no_memory_line : List ℕ
no_memory_line = reply_text (outcome (refused no_memory))
