-- What a watch is given, as the definitions say it.
use Rattle.std.specs.Prelude.{ℕ, List, [], ◌∷◌, map, Option, Some, None}
use Rattle.spec_api.specs.Streams.{Line, bookmark}
use Rattle.spec_api.specs.Versions as versions
use Rattle.revisions.specs.Events.{event_seen}
use Rattle.revisions.specs.declared.watched.WatchedEvents.{WatchedEvents}

abbrev pub watched_of : WatchedEvents → versions.Watched
watched_of w = record { events = map event_seen w.events.items; stands = w.stands }

-- the bookmark that comes last, if any does
abbrev pub last_bookmark : Option ℕ → List Line
last_bookmark None = []
last_bookmark (Some r) = bookmark r ∷ []
