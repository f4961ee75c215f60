-- What who holds a connection asks of where it stands.
use Rattle.std.specs.Prelude.{◌==◌, nat_lt, length, Bool, true, false, Option, Some, None}
use Rattle.spec_api.specs.declared.kinds.Kind.{Kind}
use Rattle.http_watch.specs.declared.standing.WatchStanding.{WatchStanding}
use Rattle.http_connection.specs.declared.phase.ConnectionPhase.{ConnectionPhase}
use Rattle.http_connection.specs.declared.phase.ConnectionPhase.TheVariants as phase
use Rattle.http_connection.specs.Watches.{unwritten}

-- its request is being read
abbrev pub is_reading : ConnectionPhase → Bool
is_reading (phase.Reading a) = true
is_reading (phase.Asked a) = false
is_reading phase.Answering = false
is_reading (phase.Replying r) = false
is_reading (phase.Listing l) = false
is_reading (phase.Watching w) = false
is_reading (phase.Closing s) = false

-- a reply is to be written, a list, or some of a watch
abbrev pub is_unwritten : ConnectionPhase → Bool
is_unwritten (phase.Reading a) = false
is_unwritten (phase.Asked a) = false
is_unwritten phase.Answering = false
is_unwritten (phase.Replying r) = true
is_unwritten (phase.Listing l) = true
is_unwritten (phase.Watching w) = nat_lt 0 (length (unwritten w))
is_unwritten (phase.Closing s) = false

abbrev pub kind_watched_at : Kind → Option WatchStanding → Option Kind
kind_watched_at k None = None
kind_watched_at k (Some at) = Some k

-- the kind whose changes it is to be looked at for: that of a watch which is not over
abbrev pub watched_kind : ConnectionPhase → Option Kind
watched_kind (phase.Reading a) = None
watched_kind (phase.Asked a) = None
watched_kind phase.Answering = None
watched_kind (phase.Replying r) = None
watched_kind (phase.Listing l) = None
watched_kind (phase.Watching w) = kind_watched_at w.view.kind w.at
watched_kind (phase.Closing s) = None

abbrev pub has_just_shown : Option WatchStanding → Bool
has_just_shown None = false
has_just_shown (Some at) = at.idle == 0

-- it is a watch whose last look gave lines, after which there may be more
abbrev pub is_behind : ConnectionPhase → Bool
is_behind (phase.Reading a) = false
is_behind (phase.Asked a) = false
is_behind phase.Answering = false
is_behind (phase.Replying r) = false
is_behind (phase.Listing l) = false
is_behind (phase.Watching w) = has_just_shown w.at
is_behind (phase.Closing s) = false

-- its list or its watch stopped so that others go on meanwhile
abbrev pub is_paused : ConnectionPhase → Bool
is_paused (phase.Reading a) = false
is_paused (phase.Asked a) = false
is_paused phase.Answering = false
is_paused (phase.Replying r) = false
is_paused (phase.Listing l) = l.is_paused
is_paused (phase.Watching w) = w.is_paused
is_paused (phase.Closing s) = false

-- it is to be closed
abbrev pub is_over : ConnectionPhase → Bool
is_over (phase.Reading a) = false
is_over (phase.Asked a) = false
is_over phase.Answering = false
is_over (phase.Replying r) = false
is_over (phase.Listing l) = false
is_over (phase.Watching w) = false
is_over (phase.Closing s) = true
