use Rattle.std.proofs.Common.{◌≡◌, refl, Ok, Err}
use Rattle.request_parts.specs.Collected.{list_seen}
use Rattle.selector.specs.Views.{view_of}
use Rattle.desk.specs.Askings.{IsReadable}
use Rattle.desk.specs.Desks.{known}
use Rattle.desk.proofs.Seated.{listed}
use Rattle.desk.proofs.seat_calls.SeatReadableSite.list.Goals as goal

pub returns-in-Ok : goal.returns-in-Ok
returns-in-Ok g c =
    let seat = c.args.self.now in
    record { lists = listed IsReadable ((seat.desk.now ≡ seat.desk.now) × (seat.listener ≡ seat.listener)) (refl, refl) seat.desk.now.window (known seat.pass) (known c.list.new.pass) (view_of c.args.view.now) (list_seen c.args.options.now) (Ok c.in-Ok.reply) seat.sits.1 c.in-Ok.ensures.list }

pub returns-in-Err : goal.returns-in-Err
returns-in-Err g c =
    let seat = c.args.self.now in
    record { lists = listed IsReadable ((seat.desk.now ≡ seat.desk.now) × (seat.listener ≡ seat.listener)) (refl, refl) seat.desk.now.window (known seat.pass) (known c.list.new.pass) (view_of c.args.view.now) (list_seen c.args.options.now) (Err c.in-Err.fault) seat.sits.1 c.in-Err.ensures.list }
