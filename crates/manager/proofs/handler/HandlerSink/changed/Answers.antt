use Rattle.std.proofs.Common.{◌∙◌, ℕ, sym, map, subst}
use Rattle.control_desk.specs.Desks.{known}
use Rattle.indexer.specs.Shifted.{shift_of}
use Rattle.manager.specs.Handled.{Stops}
use Rattle.manager.proofs.None.{on_err}
use Rattle.manager.proofs.handler.HandlerSink.changed.Goals as goal

pub returns-in_err-handle_from-clause-refuses : goal.returns-in_err-handle_from-clause-refuses
returns-in_err-handle_from-clause-refuses g c =
    let a = c.args.self.now in
    let b = c.handle_from.new.self in
    let stops : ℕ → Type 0 = λ r.
    Stops (record { kind = a.kind; revision = r; cause = c.args.cause })
    (record { kind = a.kind; handled = a.handled; added = a.added; revision = a.revision; looks = a.looks }) (map shift_of c.args.shifts.now) b.listers.listers (known a.pass)
    (known b.pass) (record { kind = b.kind; handled = b.handled; added = b.added; revision = b.revision; looks = b.looks }) in
    on_err c.from_residual.result _
    (sym c.is_other.ensures ∙ c.if-is_other.false, subst stops c.revision.ensures c.in_err-handle_from.ensures.err, c.handle_from.ensures.revision, c.handle_from.ensures.kind)
