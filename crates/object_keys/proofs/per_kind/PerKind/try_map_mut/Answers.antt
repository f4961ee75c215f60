use Rattle.std.proofs.Common.{refl, inl}
use Rattle.object_keys.proofs.PerKinds.{gives, changes}
use Rattle.object_keys.proofs.per_kind.PerKind.try_map_mut.Goals as goal

pub returns-in_err-change-clause-each : goal.returns-in_err-change-clause-each
returns-in_err-change-clause-each g c = (changes g.F.FnMut c.change.ensures, inl refl, inl refl, inl refl)

pub returns-in_err-change-2-clause-each : goal.returns-in_err-change-2-clause-each
returns-in_err-change-2-clause-each g c = (changes g.F.FnMut c.change.ensures, changes g.F.FnMut c.change-2.ensures, inl refl, inl refl)

pub returns-in_err-change-3-clause-each : goal.returns-in_err-change-3-clause-each
returns-in_err-change-3-clause-each g c =
    (changes g.F.FnMut c.change.ensures, changes g.F.FnMut c.change-2.ensures, changes g.F.FnMut c.change-3.ensures, inl refl)

pub returns-in_err-change-4-clause-each : goal.returns-in_err-change-4-clause-each
returns-in_err-change-4-clause-each g c =
    (changes g.F.FnMut c.change.ensures, changes g.F.FnMut c.change-2.ensures, changes g.F.FnMut c.change-3.ensures, changes g.F.FnMut c.change-4.ensures)

pub returns-clause-ok : goal.returns-clause-ok
returns-clause-ok g c = (
  gives g.F.FnMut c.change.ensures c.in_ok-change.was,
  gives g.F.FnMut c.change-2.ensures c.in_ok-change-2.was,
  gives g.F.FnMut c.change-3.ensures c.in_ok-change-3.was,
  gives g.F.FnMut c.change-4.ensures c.in_ok-change-4.was,
)

pub returns-clause-each : goal.returns-clause-each
returns-clause-each g c =
    (changes g.F.FnMut c.change.ensures, changes g.F.FnMut c.change-2.ensures, changes g.F.FnMut c.change-3.ensures, changes g.F.FnMut c.change-4.ensures)
