-- What new loops have answered.
use Rattle.std.specs.Prelude.{ℕ, List, All, Option, map}
use Rattle.http_event_loop.specs.declared.event_loop.EventLoop.{EventLoop}
use Rattle.http_event_loop.specs.Rows.{ServesEach, ServesEachSome}
use Rattle.desk.specs.declared.askings.Readable.{Readable}
use Rattle.desk.specs.declared.desks.Desk.{Desk}
use Rattle.desk.specs.declared.seats.Seat.{Seat}
use Rattle.kcp_loopback.specs.Serving.{IsNewOf, IsServed, seat_of}
use Rattle.kcp_loopback.specs.declared.ringing.Ringer.{Ringer}

module _ {R L : Type 0} where
  -- the loops are new ones of a desk
  abbrev pub AreNew : List (EventLoop (Seat Readable Ringer R) L) → Type 0
  AreNew es = (d : Desk Readable) × All (IsNewOf d) es

  -- over all they have answered this many connections
  abbrev pub HaveAnswered : ℕ → List (EventLoop (Seat Readable Ringer R) L) → Type 0
  HaveAnswered n es = (lasts : List (Seat Readable Ringer R)) × ServesEach IsServed n (map seat_of es) lasts

  -- they have answered some, over all no more than the limit if there is one
  abbrev pub HaveAnsweredSome : Option ℕ → List (EventLoop (Seat Readable Ringer R) L) → Type 0
  HaveAnsweredSome limit es = (lasts : List (Seat Readable Ringer R)) × ServesEachSome IsServed limit (map seat_of es) lasts
