use Rattle.std.proofs.Common.{◌≡◌, refl, sym, subst, ◌∙◌, true≢false}
use Rattle.request_parts.specs.Requests.{request_of}
use Rattle.desk.specs.Desks.{known}
use Rattle.desk.proofs.Seated.{called, call_refused}
use Rattle.desk.proofs.seats.Seat.request.Goals as goal
use Rattle.desk.proofs.seats.Seat.request.Goals.{then-served, else-served}

pub returns-in-Err : goal.returns-in-Err
returns-in-Err g c =
    (call_refused g.A.Asking.MayAsk (Unit {0}) tt (known c.args.self.now.pass) (known c.serve.new.pass) (request_of c.args.request) c.args.moment c.in-Err.fault c.in-Err.ensures.call, refl, refl)

pub returns-after-served : goal.returns-after-served
returns-after-served g c =
    let seat = c.args.self.now in let pass = c.serve.new.pass in
    elim c.if-served.branch [
      | then-served w ↦
          rw w.self-is (called g.A.Asking.MayAsk (seat.desk.now ≡ seat.desk.now) refl g.L.Listener.Hears (known seat.pass) (known pass) (request_of c.args.request) c.args.moment c.in-Ok.served seat.listener w.wrote.new.self
          c.in-Ok.ensures.call (λ e. subst (λ k. g.L.Listener.Hears k seat.listener w.wrote.new.self) c.kind-kind.ensures w.wrote.ensures) (λ e. absurd (true≢false (sym w.if-served.true ∙ e))))
      | else-served w ↦
          rw w.self-is (called g.A.Asking.MayAsk (seat.desk.now ≡ seat.desk.now) refl g.L.Listener.Hears (known seat.pass) (known pass) (request_of c.args.request) c.args.moment c.in-Ok.served seat.listener seat.listener
          c.in-Ok.ensures.call (λ e. absurd (true≢false (sym e ∙ w.if-served.false))) (λ e. refl))
    ]
