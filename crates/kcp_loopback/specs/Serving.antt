-- What connections make of the seat of the loop that answers them.
use Rattle.std.specs.Prelude.{◌≡◌, ◌≤◌, ℕ}
use Rattle.http_event_loop.specs.Asked.{AreAsked}
use Rattle.http_event_loop.specs.declared.event_loop.EventLoop.{EventLoop}
use Rattle.desk.specs.Askings.{IsReadable}
use Rattle.desk.specs.Desks.{IsNewAt}
use Rattle.desk.specs.Seats.{desk_at, known_at, Stays, Calls, Lists, Watches, Begins}
use Rattle.desk.specs.declared.askings.Readable.{Readable}
use Rattle.desk.specs.declared.desks.Desk.{Desk}
use Rattle.desk.specs.declared.seats.Seat.{Seat}
use Rattle.kcp_loopback.specs.Asking.{Rings}
use Rattle.kcp_loopback.specs.declared.ringing.Ringer.{Ringer}

module _ {R : Type 0} where
  -- so many things are asked at a seat, each of them a request, a list or the beginning of a watch, with looks of watches between them
  abbrev pub Asks : ℕ → Seat Readable Ringer R → Seat Readable Ringer R → Type 0
  Asks = AreAsked (Calls IsReadable Rings) (Lists IsReadable) (Begins IsReadable) (Watches IsReadable)

  -- so many connections are answered at a seat, which stays at its desk: of each one thing is asked at most
  abbrev pub IsServed : ℕ → Seat Readable Ringer R → Seat Readable Ringer R → Type 0
  IsServed connections s t = ((asked : ℕ) × (asked ≤ connections) × Asks asked s t) × Stays s t

  -- the name of the pass of a seat, with which the writes that it makes are marked
  abbrev pub name_of : Seat Readable Ringer R → ℕ
  name_of s = (known_at s).name

  -- a seat at this desk, by a pass that has seen nothing there and made nothing
  abbrev pub IsNewSeat : Desk Readable → Seat Readable Ringer R → Type 0
  IsNewSeat d s = (desk_at s ≡ d) × IsNewAt d s.pass

  module _ {L : Type 0} where
    -- the seat of a loop
    abbrev pub seat_of : EventLoop (Seat Readable Ringer R) L → Seat Readable Ringer R
    seat_of e = e.asker.site

    -- a loop at a new seat, which has taken no connection and asked nothing
    abbrev pub IsNewOf : Desk Readable → EventLoop (Seat Readable Ringer R) L → Type 0
    IsNewOf d e = IsNewSeat d (seat_of e) × (e.asker.taken.count ≡ 0) × (e.asker.asked ≡ 0)
