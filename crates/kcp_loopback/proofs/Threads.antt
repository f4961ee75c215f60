-- What the loops of a server have done, by what each of them did.
use Rattle.std.proofs.Common.{◌≡◌, ◌≤◌, ◌+◌, ℕ, List, [], ◌∷◌, Option, Some, None, All, length, map, refl, ap, sym, subst, ◌∙◌, arith}
use Rattle.std.specs.List.{range_with_len}
use Rattle.std.proofs.lemmas.List.{length-map}
use Rattle.std.proofs.lemmas.List.Elements.{All-head, All-map, All-tail, All-weaker}
use Rattle.std.proofs.lemmas.Simd.{map-map}
use Rattle.http_event_loop.specs.Asked.{HasAsked}
use Rattle.http_event_loop.specs.Counted.{taken_over}
use Rattle.http_event_loop.specs.declared.event_loop.EventLoop.{EventLoop}
use Rattle.http_event_loop.specs.Rows.{RunsEach, ServesEach}
use Rattle.desk.specs.Askings.{IsReadable}
use Rattle.desk.specs.Desks.{window_size}
use Rattle.desk.specs.Seats.{Begins, Calls, Lists, Stays, Watches}
use Rattle.desk.specs.declared.askings.Readable.{Readable}
use Rattle.desk.specs.declared.desks.Desk.{Desk}
use Rattle.desk.specs.declared.seats.Seat.{Seat}
use Rattle.kcp_loopback.specs.Asking.{Rings}
use Rattle.kcp_loopback.specs.Serving.{IsNewOf, IsNewSeat, IsServed, name_of, seat_of}
use Rattle.kcp_loopback.specs.Threads.{Begin}
use Rattle.kcp_loopback.specs.declared.ringing.Ringer.{Ringer}
use Rattle.kcp_loopback.proofs.Serving.{stays}

-- loops begin, whose seats are made of the passes that a desk opens with
module _ {R L P K : Type 0} (known : P → K) (knows : EventLoop (Seat Readable Ringer R) L → K) (name : K → ℕ) (same : (e : EventLoop (Seat Readable Ringer R) L) → name_of (seat_of e) ≡ name (knows e))
    (passes : List P) (made : List (EventLoop (Seat Readable Ringer R) L)) (count : ℕ)
    (so : map knows made ≡ map known passes) (names : map (λ p. name (known p)) passes ≡ range_with_len 0 (length passes)) (many : length passes ≡ count) where
  -- in the order of the passes, with their numbers
  numbered : map (λ e. name_of (seat_of e)) made ≡ range_with_len 0 count
  numbered =
      (λ i. map (λ e. same e i) made)
      ∙ sym (map-map name knows made) ∙ ap (map name) so ∙ map-map name known passes ∙ names ∙ ap (range_with_len 0) many

  pub begun : (d : Desk Readable) (window : ℕ) → window_size d ≡ window → All (IsNewOf d) made → length made ≡ length passes → Begin R window count (map seat_of made)
  begun d window sized new each = (d, sized, length-map made seat_of ∙ each ∙ many, All-map (IsNewSeat d) seat_of made (All-weaker (IsNewOf d) (λ e. IsNewSeat d (seat_of e)) (λ e is. is.0) made new), map-map name_of seat_of made ∙ numbered)

module _ {R L : Type 0} where
  -- what a loop has asked that has taken so many connections
  abbrev Ran : EventLoop (Seat Readable Ringer R) L → EventLoop (Seat Readable Ringer R) L → Type 0
  Ran a b = HasAsked (Calls IsReadable Rings) (Lists IsReadable) (Begins IsReadable) (Watches IsReadable) a.asker b.asker

  served : (d : Desk Readable) (a b : EventLoop (Seat Readable Ringer R) L) → IsNewOf d a → Ran a b → IsServed b.asker.taken.count (seat_of a) (seat_of b)
  served d a b (new, taken, asked) ran =
      let none = asked in
      let counted = ran.counted in
      let within = b.asker.within in
      ((ran.requests, omega (arith, none, counted, within), ran.chain), stays ran.requests (seat_of a) (seat_of b) ran.chain)

  -- each of new loops ran: over all they have answered as many connections as they took
  pub served_each : (d : Desk Readable) (firsts lasts : List (EventLoop (Seat Readable Ringer R) L)) → All (IsNewOf d) firsts → RunsEach Ran firsts lasts
      → ServesEach IsServed (taken_over lasts) (map seat_of firsts) (map seat_of lasts)
  served_each d [] [] new ran = refl
  served_each d [] (b ∷ lasts) new ran = elim ran [ ]
  served_each d (a ∷ firsts) [] new ran = elim ran [ ]
  served_each d (a ∷ firsts) (b ∷ lasts) new ran =
      (b.asker.taken.count, taken_over lasts, refl, served d a b (All-head (IsNewOf d) a firsts new) ran.0, served_each d firsts lasts (All-tail (IsNewOf d) a firsts new) ran.1)
