use Rattle.std.proofs.Common.{◌≡◌, refl, Ok, Err}
use Rattle.selector.specs.Views.{view_of}
use Rattle.desk.specs.Desks.{known}
use Rattle.desk.proofs.Seated.{looked}
use Rattle.desk.proofs.seat_calls.SeatWatchSource.watch_from.Goals as goal

pub returns-in-Ok : goal.returns-in-Ok
returns-in-Ok g c =
    let seat = c.args.self.now in
    record { watches = looked g.A.Asking.MayAsk ((seat.desk.now ≡ seat.desk.now) × (seat.listener ≡ seat.listener)) (refl, refl) seat.desk.now.window (known seat.pass) (known c.watch_from.new.pass) (view_of c.args.view.now) c.args.after c.args.most (Ok c.in-Ok.watched) seat.sits.1 c.in-Ok.ensures.watch }

pub returns-in-Err : goal.returns-in-Err
returns-in-Err g c =
    let seat = c.args.self.now in
    record { watches = looked g.A.Asking.MayAsk ((seat.desk.now ≡ seat.desk.now) × (seat.listener ≡ seat.listener)) (refl, refl) seat.desk.now.window (known seat.pass) (known c.watch_from.new.pass) (view_of c.args.view.now) c.args.after c.args.most (Err c.in-Err.fault) seat.sits.1 c.in-Err.ensures.watch }
