use Rattle.std.proofs.Common.{◌+◌, take, sym, subst, arith}
use Rattle.left_right.specs.Sides.{view}
use Rattle.informer.specs.Knowing.{latest}
use Rattle.informer.specs.Published.{IsAfter}
use Rattle.informer.specs.SharedDeltas.{all_in}
use Rattle.informer.proofs.Keeps.{Says}
use Rattle.informer.proofs.Logs.{log_one}
use Rattle.informer.proofs.copies.Copies.log_next.Goals as goal

pub invariant_of-self-in-Ok : goal.invariant_of-self-in-Ok
invariant_of-self-in-Ok c =
    let old = c.args.self.now in record {
      after = subst (λ d. IsAfter (latest (view d.place)) d.shown.value) (sym c.in-Ok.ensures.desk) old.after;
      in_log = subst (λ ps. Says ps (take (old.logged + 1) (all_in old.waiting.items))) (sym c.in-Ok.ensures.pending)
          (log_one _ old.waiting.items old.logged c.in_ok-next.next c.index.result.now old.in_log c.requires c.index.ensures c.in_ok-next.ensures);
      some = omega (arith, c.requires);
    }
