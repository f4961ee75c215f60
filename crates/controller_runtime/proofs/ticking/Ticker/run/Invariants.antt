use Rattle.std.proofs.Common.{◌≡◌}
use Rattle.shared_keyed_board.specs.Passes.{sight, key_in_hand, IsPassAt}
use Rattle.controller_runtime.specs.Reconciled.{OnlyTicks}
use Rattle.controller_runtime.proofs.ticking.Ticker.run.Given as goal

-- only time has passed
abbrev pub invariant-loop : goal.invariant-loop
invariant-loop g l =
    let says = g.K.Named.says in
    record {
      pass : IsPassAt l.board l.self.pass;
      key : key_in_hand says l.self.pass ≡ key_in_hand says l.fn.self.pass;
      ticks : OnlyTicks (sight says l.fn.self.pass) (sight says l.self.pass);
      next : (goal.iterator-loop g).can_next l.iterator';
      ends : (goal.iterator-loop g).is_finite l.iterator';
    }
