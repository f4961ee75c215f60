use Rattle.std.proofs.Common.{◌≡◌}
use Rattle.std.specs.Prelude.{Some}
use Rattle.shared_keyed_board.specs.Passes.{sight, key_in_hand, IsPassAt}
use Rattle.controller_runtime.specs.Reconciled.{OnlyTicks}
use Rattle.controller_runtime.proofs.means.Means.finish.Given as goal

-- the key is still in hand, and only time passed
abbrev pub invariant-loop : goal.invariant-loop
invariant-loop g l =
    let says = g.K.Named.says in
    record {
      pass : IsPassAt l.board l.pass;
      same : l.hand ≡ l.fn.hand;
      mine : key_in_hand says l.pass ≡ Some (says l.hand);
      ticks : OnlyTicks (sight says l.fn.pass) (sight says l.pass);
      looked : l.self.listers.listers ≡ l.fn.self.listers.listers;
      next : (goal.iterator-loop g).can_next l.iterator';
      ends : (goal.iterator-loop g).is_finite l.iterator';
    }
