use Rattle.std.proofs.Common.{◌≡◌, ◌+◌, [], ◌∷◌, ◌++◌, Some, drop, sym, ap, ◌∙◌, arith, rules}
use Rattle.std.proofs.lemmas.List.{map-append}
use Rattle.std.proofs.lemmas.Grind.{common_steps}
use Rattle.serde_json.specs.View.{view, items_view}
use Rattle.spec_api.specs.SelectorValues.{expression_requirement, expression_requirements}
use Rattle.selector.specs.Reading.{onto_read}
use Rattle.selector.specs.Seen.{requirement_of, requirements_of}
use Rattle.selector.proofs.Steps.{one-more}
use Rattle.selector.proofs.requirement_values.expressions.Goals as goal

pub loop-item-preserved : goal.loop-item-preserved
loop-item-preserved c =
    let i = c.loop-item.item-index in
    let items = c.args.items.now.items in
    let x = c.item-item.result in
    let v = c.in_ok-read.read in
    let same : c.deref-item-items.result.now ≡ items = c.deref-item-items.ensures.value in
    let d : drop i items ≡ x ∷ drop (i + 1) items = grind (arith, common_steps) in
    let p : c.push.new.self.items ≡ c.loop-item.found.items ++ v ∷ [] = search rules in
    let r : expression_requirement (view x) ≡ Some (requirement_of v) = search rules in
    let h = c.loop-item.invariant ∙ ap (λ z. onto_read (requirements_of c.loop-item.found.items) (expression_requirements (items_view z))) d in
    let m : requirements_of c.push.new.self.items ≡ requirements_of c.loop-item.found.items ++ requirement_of v ∷ [] = ap requirements_of p ∙ map-append requirement_of c.loop-item.found.items (v ∷ []) in
    one-more (expression_requirements (items_view items)) (requirements_of c.loop-item.found.items) (requirement_of v) (expression_requirement (view x)) (expression_requirements (items_view (drop (i + 1) items))) h r
    ∙ ap (λ z. onto_read z (expression_requirements (items_view (drop (i + 1) items)))) (sym m)
