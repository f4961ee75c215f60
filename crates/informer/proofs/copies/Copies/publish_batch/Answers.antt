use Rattle.std.proofs.Common.{◌<◌, length, sym, ap, ◌∙◌, subst, arith}
use Rattle.left_right.specs.Sides.{view}
use Rattle.reflector.specs.Deltas.{deltas_of}
use Rattle.informer.specs.Copies.{deltas_waiting}
use Rattle.informer.specs.SharedDeltas.{all_in}
use Rattle.informer.proofs.Batches.{after_batch, published_batch}
use Rattle.informer.proofs.Keeps.{publishes}
use Rattle.informer.proofs.Logs.{all_logged}
use Rattle.informer.proofs.copies.Copies.publish_batch.Goals as goal

pub publish_as-writer-requires : goal.publish_as-writer-requires
publish_as-writer-requires g c next is =
    let self = c.args.self in
    let says = all_logged _ self.waiting.items self.logged self.in_log c.requires.logged ∙ ap deltas_of (sym c.requires.batch) in
    let some = subst (λ ds. 0 < length ds) (sym c.requires.batch) c.requires.some in
    publishes _ _ _ next _ _ says some self.after is

pub invariant_of-copies : goal.invariant_of-copies
invariant_of-copies g c =
    let self = c.args.self in
    let old = self.writer in
    let new = c.publish_as-writer.result.0 in
    let values = rw c.in-Ok.is at c.publish_as-writer.ensures.values in
    let knows = rw c.in-Ok.is at c.publish_as-writer.ensures.rule in
    let says = all_logged _ self.waiting.items self.logged self.in_log c.requires.logged ∙ ap deltas_of (sym c.requires.batch) in
    let some = subst (λ ds. 0 < length ds) (sym c.requires.batch) c.requires.some in
    record {
      after = after_batch old.desk.shown.value new.desk.shown.value (view old.desk.place) (view new.desk.place) _ _ says some self.after values.0 knows;
      in_log = ap (λ ps. deltas_of (all_in ps)) values.1;
      some = omega arith;
    }

pub returns-in-Ok-clause-ok : goal.returns-in-Ok-clause-ok
returns-in-Ok-clause-ok g c =
    let self = c.args.self in
    let old = self.writer in
    let new = c.publish_as-writer.result.0 in
    let values = rw c.in-Ok.is at c.publish_as-writer.ensures.values in
    let knows = rw c.in-Ok.is at c.publish_as-writer.ensures.rule in
    let says = all_logged _ self.waiting.items self.logged self.in_log c.requires.logged ∙ ap deltas_of (sym c.requires.batch) in
    let both = published_batch old.desk.shown.value new.desk.shown.value (view old.desk.place) (view new.desk.place) _ _ (deltas_waiting self) says c.requires.batch c.requires.some values.0 knows in
    (both.0, both.1, ap all_in c.clear.ensures.items)
