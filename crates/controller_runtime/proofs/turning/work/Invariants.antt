use Rattle.controller_runtime.specs.Runs.{IsAtWork}
use Rattle.controller_runtime.proofs.turning.work.Given as goal

-- no key is in hand
abbrev pub invariant-loop : goal.invariant-loop
invariant-loop g l =
    record {
      work : IsAtWork g.C.Reconciler.owes g.C.Reconciler.ends g.K.Named.says l.board l.pass;
      next : (goal.iterator-loop g).can_next l.iterator';
      ends : (goal.iterator-loop g).is_finite l.iterator';
    }
