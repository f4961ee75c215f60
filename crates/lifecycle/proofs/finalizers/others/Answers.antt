use Rattle.std.proofs.Common.{List, Vec, Global, sym, ap, ◌∙◌}
use Rattle.serde_json.specs.Data.{no_items}
use Rattle.serde_json.specs.declared.value.Value.{Value}
use Rattle.serde_json.specs.View.{view, items_view}
use Rattle.spec_api.specs.Deletion.{is_of_policy, others_then}
use Rattle.lifecycle.proofs.Followed.{others-left_out, others-next, others-end}
use Rattle.lifecycle.proofs.finalizers.others.Goals as goal
use Rattle.lifecycle.proofs.finalizers.others.Goals.{then-not-is_of_policy+in_ok-clone+in_ok-push, else-not-is_of_policy}

abbrev existing : Vec Value Global → List Value
existing vs = vs.items

pub loop-item-preserved : goal.loop-item-preserved
loop-item-preserved c =
    let all = c.args.items.now in
    let done = c.loop-item.left.items in
    let i = c.loop-item.item-index in
    let x = c.item-item.result in
    let whole = others_then no_items (items_view all) in
    let tested = ap (λ (v : Value). is_of_policy (view v)) (sym c.item-item.is) ∙ sym c.is_of_policy.ensures in
    elim c.if-not-is_of_policy.branch [
      | then-not-is_of_policy+in_ok-clone+in_ok-push w ↦
          others-next all done c.if-not-is_of_policy.left.items i x w.in_ok-clone.field-0 whole c.loop-item-test.true (ap existing w.left-is ∙ w.in_ok-push.ensures.items)
          (w.in_ok-clone.ensures.cases ∙ ap view c.item-item.is) (tested ∙ w.if-not-is_of_policy.true) c.loop-item.invariant
      | else-not-is_of_policy w ↦
          others-left_out all done c.if-not-is_of_policy.left.items i x whole c.loop-item-test.true (ap existing w.left-is) (tested ∙ w.if-not-is_of_policy.false) c.loop-item.invariant
    ]

pub returns : goal.returns
returns c =
    others-end c.args.items.now c.loop-item.left.items c.loop-item.item-index (others_then no_items (items_view c.args.items.now)) c.loop-item-test.false c.loop-item.invariant
