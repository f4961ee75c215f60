use Rattle.std.proofs.Common.{ap, ◌∙◌}
use Rattle.serde_json.specs.View.{view, items_view}
use Rattle.lifecycle.proofs.Followed.{copied-next, copied-end}
use Rattle.lifecycle.proofs.finalizers.copied.Goals as goal

pub loop-item-preserved : goal.loop-item-preserved
loop-item-preserved c =
    copied-next c.args.items.now c.loop-item.copies.items c.push.new.self.items c.loop-item.item-index c.item-item.result c.in_ok-clone.field-0 (items_view c.args.items.now) c.loop-item-test.true c.in_ok-push.ensures.items
    (c.in_ok-clone.ensures.cases ∙ ap view c.item-item.is) c.loop-item.invariant

pub returns : goal.returns
returns c = copied-end c.args.items.now c.loop-item.copies.items c.loop-item.item-index (items_view c.args.items.now) c.loop-item-test.false c.loop-item.invariant
