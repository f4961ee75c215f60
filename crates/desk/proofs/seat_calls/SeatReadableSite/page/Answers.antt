use Rattle.std.proofs.Common.{◌≡◌, refl, Ok, Err}
use Rattle.request_parts.specs.Collected.{list_seen}
use Rattle.selector.specs.Views.{view_of}
use Rattle.desk.specs.Askings.{IsReadable}
use Rattle.desk.specs.Desks.{known}
use Rattle.desk.proofs.Seated.{found}
use Rattle.desk.proofs.seat_calls.SeatReadableSite.page.Goals as goal

pub returns-in-Ok : goal.returns-in-Ok
returns-in-Ok g c =
    let seat = c.args.self.now in
    record { pages = found IsReadable ((seat.desk.now ≡ seat.desk.now) × (seat.listener ≡ seat.listener)) (refl, refl) seat.desk.now.window (known seat.pass) (known c.page.new.pass) (view_of c.args.view.now) (list_seen c.args.options.now) (Ok c.in-Ok.text) seat.sits.1 c.in-Ok.ensures.page }

pub returns-in-Err : goal.returns-in-Err
returns-in-Err g c =
    let seat = c.args.self.now in
    record { pages = found IsReadable ((seat.desk.now ≡ seat.desk.now) × (seat.listener ≡ seat.listener)) (refl, refl) seat.desk.now.window (known seat.pass) (known c.page.new.pass) (view_of c.args.view.now) (list_seen c.args.options.now) (Err c.in-Err.fault) seat.sits.1 c.in-Err.ensures.page }
