-- What new loops that began at a desk have served.
use Rattle.std.proofs.Common.{ℕ, List, Option, Some, None, Result, Ok, Err, IfErr, IfSome, OnErr, OnOk, map, ◌⊎◌, inl}
use Rattle.http_event_loop.specs.declared.event_loop.EventLoop.{EventLoop}
use Rattle.desk.specs.declared.askings.Readable.{Readable}
use Rattle.desk.specs.declared.seats.Seat.{Seat}
use Rattle.kcp_loopback.specs.Serving.{seat_of}
use Rattle.kcp_loopback.specs.Threads.{Begin, HaveServed, HaveServedSome}
use Rattle.kcp_loopback.specs.declared.ringing.Ringer.{Ringer}
use Rattle.kcp_commands.specs.Answered.{HaveAnswered, HaveAnsweredSome}

pub said_at : {E : Type 0} (P : ℕ → Type 0) (r : Result (Unit {0}) E) (port : ℕ) → OnOk r (P port) → OnOk r ((taken : ℕ) × P taken)
said_at P (Ok u) port said = (port, said)
said_at P (Err e) port said = tt

module _ {R L : Type 0} (window count : ℕ) (es : List (EventLoop (Seat Readable Ringer R) L)) (begin : Begin R window count (map seat_of es)) where
  served : (n : ℕ) → HaveAnswered n es → HaveServed R window count n
  served n all = (map seat_of es, all.0, begin, all.1)

  limited : (limit : Option ℕ) → IfSome limit (λ most. HaveAnswered most es) → IfSome limit (HaveServed R window count)
  limited (Some n) all = served n all
  limited None all = tt

  pub served_all : {E : Type 0} (limit : Option ℕ) (r : Result (Unit {0}) E) → OnOk r (IfSome limit (λ most. HaveAnswered most es)) → OnOk r (IfSome limit (HaveServed R window count))
  served_all limit (Ok u) all = limited limit all
  served_all limit (Err e) all = tt

  pub served_some : {E : Type 0} (P : E → Type 0) (limit : Option ℕ) (r : Result (Unit {0}) E) → OnErr r (HaveAnsweredSome limit es) → IfErr r (λ fault. HaveServedSome R window count limit ⊎ P fault)
  served_some P limit (Ok u) some = tt
  served_some P limit (Err e) some = inl (map seat_of es, some.0, begin, some.1)
