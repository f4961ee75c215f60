-- What the loops of a server have done.
use Rattle.std.specs.Prelude.{◌≡◌, ℕ, List, All, Option, length, map}
use Rattle.std.specs.List.{range_with_len}
use Rattle.http_event_loop.specs.Rows.{ServesEach, ServesEachSome}
use Rattle.desk.specs.Desks.{window_size}
use Rattle.desk.specs.declared.askings.Readable.{Readable}
use Rattle.desk.specs.declared.desks.Desk.{Desk}
use Rattle.desk.specs.declared.seats.Seat.{Seat}
use Rattle.kcp_loopback.specs.Serving.{IsNewSeat, IsServed, name_of}
use Rattle.kcp_loopback.specs.declared.ringing.Ringer.{Ringer}

module _ (R : Type 0) where
  -- a desk opened with windows of this size, and this many loops begin at seats of it: no one has seen or made anything yet, and each has a name
  -- of its own, from 0 on in their order
  abbrev pub Begin : ℕ → ℕ → List (Seat Readable Ringer R) → Type 0
  Begin window count firsts =
      (d : Desk Readable) × (window_size d ≡ window) × (length firsts ≡ count) × All (IsNewSeat d) firsts × (map name_of firsts ≡ range_with_len 0 count)

  -- loops that began so have answered this many connections over all
  abbrev pub HaveServed : ℕ → ℕ → ℕ → Type 0
  HaveServed window count n =
      (firsts : List (Seat Readable Ringer R)) × (lasts : List (Seat Readable Ringer R)) × Begin window count firsts × ServesEach IsServed n firsts lasts

  -- they have answered some, over all no more than the limit if there is one
  abbrev pub HaveServedSome : ℕ → ℕ → Option ℕ → Type 0
  HaveServedSome window count limit =
      (firsts : List (Seat Readable Ringer R)) × (lasts : List (Seat Readable Ringer R)) × Begin window count firsts × ServesEachSome IsServed limit firsts lasts
