use Rattle.std.proofs.Common.{refl}
use Rattle.object_keys.proofs.PerKinds.{gave}
use Rattle.object_keys.proofs.per_kind.PerKind.try_made_in_turn.Goals as goal

pub returns : goal.returns
returns g c = (
  c.make-4.new.self,
  (
    c.make.new.self,
    gave g.F.FnMut c.make.ensures c.in_ok-make.was,
    (
      c.make-2.new.self,
      gave g.F.FnMut c.make-2.ensures c.in_ok-make-2.was,
      (
        c.make-3.new.self,
        gave g.F.FnMut c.make-3.ensures c.in_ok-make-3.was,
        (c.make-4.new.self, gave g.F.FnMut c.make-4.ensures c.in_ok-make-4.was, refl),
      ),
    ),
  ),
)
