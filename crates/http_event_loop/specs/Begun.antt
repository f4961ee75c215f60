-- How far a connection has come that a loop is given.
use Rattle.std.specs.Prelude.{ℕ, List, Some, Result, Ok, Err, ⊤}
use Rattle.spec_api.specs.Targets as targets
use Rattle.spec_http.specs.Connections.{Asks}
use Rattle.request_parts.specs.Collected.{list_seen, watch_seen}
use Rattle.selector.specs.Views.{view_of}
use Rattle.http_connection.specs.Arriving.{HasLed, MayStand}
use Rattle.http_connection.specs.declared.phase.ConnectionPhase.{ConnectionPhase}
use Rattle.http_connection.specs.declared.phase.ConnectionPhase.TheVariants as phase
use Rattle.http_event_loop.specs.declared.begun.Begun.{Begun}
use Rattle.http_event_loop.specs.declared.begun.Begun.TheVariants as begun

-- some bytes have led there
abbrev pub HasBegun : Begun → Type 0
HasBegun begun.Unread = ⊤
HasBegun (begun.Reading a) = HasLed (phase.Reading a)
HasBegun (begun.List v options) = (read : List ℕ) × Asks read (Some (Ok (targets.list (view_of v) (list_seen options))))
HasBegun (begun.Watch v options) = (read : List ℕ) × Asks read (Some (Ok (targets.watch (view_of v) (watch_seen options))))

abbrev pub MayHaveBegun : Begun → Type 0
MayHaveBegun b = ∥ HasBegun b ∥₁

abbrev pub MayBeEither : Result Begun ConnectionPhase → Type 0
MayBeEither (Ok b) = MayHaveBegun b
MayBeEither (Err p) = MayStand p
