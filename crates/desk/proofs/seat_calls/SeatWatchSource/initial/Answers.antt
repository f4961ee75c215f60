use Rattle.std.proofs.Common.{◌≡◌, refl, Ok, Err}
use Rattle.selector.specs.Views.{view_of}
use Rattle.desk.specs.Desks.{known}
use Rattle.desk.proofs.Seated.{begun}
use Rattle.desk.proofs.seat_calls.SeatWatchSource.initial.Goals as goal

pub returns-in-Ok : goal.returns-in-Ok
returns-in-Ok g c =
    let seat = c.args.self.now in
    record { begins = begun g.A.Asking.MayAsk ((seat.desk.now ≡ seat.desk.now) × (seat.listener ≡ seat.listener)) (refl, refl) (known seat.pass) (known c.initial.new.pass) (view_of c.args.view.now) c.args.least (Ok c.in-Ok.begun) c.in-Ok.ensures.initial }

pub returns-in-Err : goal.returns-in-Err
returns-in-Err g c =
    let seat = c.args.self.now in
    record { begins = begun g.A.Asking.MayAsk ((seat.desk.now ≡ seat.desk.now) × (seat.listener ≡ seat.listener)) (refl, refl) (known seat.pass) (known c.initial.new.pass) (view_of c.args.view.now) c.args.least (Err c.in-Err.fault) c.in-Err.ensures.initial }
