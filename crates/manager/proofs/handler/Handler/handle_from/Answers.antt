use Rattle.std.proofs.Common.{◌∙◌, sym, map}
use Rattle.control_desk.specs.Desks.{known}
use Rattle.indexer.specs.Shifted.{shift_of}
use Rattle.manager.specs.Handled.{unlooked}
use Rattle.manager.proofs.None.{on_err, still_waited}
use Rattle.manager.proofs.Stops.{stops_looked}
use Rattle.manager.proofs.handler.Handler.handle_from.Goals as goal

pub returns-in_err-look-clause-err : goal.returns-in_err-look-clause-err
returns-in_err-look-clause-err g c =
    let a = c.args.self.now in
    let b = c.look.new.self in
    on_err c.from_residual.result _
    (unlooked (still_waited (known a.pass) (known b.pass) c.look.ensures.pass) c.look.ensures.handled c.look.ensures.added c.in_err-look.ensures.err)

pub returns-in_default-clause-err : goal.returns-in_default-clause-err
returns-in_default-clause-err g c =
    let a = c.args.self.now in
    let b = c.look.new.self in
    unlooked (still_waited (known a.pass) (known b.pass) c.look.ensures.pass) c.look.ensures.handled c.look.ensures.added (c.in_default.is ∙ sym (c.look.ensures.none c.in_default.is))

pub returns-clause-err : goal.returns-clause-err
returns-clause-err g c =
    let a = c.args.self.now in
    let b = c.look.new.self in
    stops_looked c.handle_all.result c.args.origin
    (record { kind = a.kind; handled = a.handled; added = a.added; revision = a.revision; looks = a.looks })
    (record { kind = b.kind; handled = c.handle_all.new.handled; added = c.handle_all.new.added; revision = b.revision; looks = b.looks })
    (map shift_of c.args.shifts.now) b.listers.listers c.in-Some.looks b.handled b.added (known a.pass) (known b.pass) (known c.handle_all.new.pass)
    c.look.ensures.handled c.look.ensures.added c.look.ensures.pass c.look.ensures.looked c.in-Some.is c.handle_all.ensures.err
