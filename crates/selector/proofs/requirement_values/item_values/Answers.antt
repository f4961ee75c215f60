use Rattle.std.proofs.Common.{◌≡◌, ◌+◌, [], ◌∷◌, ◌++◌, Some, String, string_bytes, drop, sym, ap, ◌∙◌, arith, rules}
use Rattle.std.proofs.lemmas.List.{map-append}
use Rattle.std.proofs.lemmas.Grind.{common_steps}
use Rattle.std.specs.declared.alloc.Global.{Global}
use Rattle.serde_json.specs.View.{view, items_view}
use Rattle.spec_api.specs.SelectorValues.{item_values, text_in}
use Rattle.spec_api.specs.Selectors.{label_value}
use Rattle.selector.specs.Reading.{onto_read}
use Rattle.selector.specs.Seen.{texts_of}
use Rattle.selector.proofs.Steps.{one-more}
use Rattle.selector.proofs.requirement_values.item_values.Goals as goal

pub loop-item-preserved : goal.loop-item-preserved
loop-item-preserved c =
    let i = c.loop-item.item-index in
    let items = c.args.items.now.items in
    let x = c.item-item.result in
    let v = c.in_ok-value.value in
    let same : c.deref-item-items.result.now ≡ items = c.deref-item-items.ensures.value in
    let d : drop i items ≡ x ∷ drop (i + 1) items = grind (arith, common_steps) in
    let p : c.push.new.self.items ≡ c.loop-item.values.items ++ v ∷ [] = search rules in
    let r : label_value (text_in (Some (view x))) ≡ Some (string_bytes v) = search rules in
    let h = c.loop-item.invariant ∙ ap (λ z. onto_read (texts_of c.loop-item.values.items) (item_values (items_view z))) d in
    let m : texts_of c.push.new.self.items ≡ texts_of c.loop-item.values.items ++ string_bytes v ∷ [] = ap texts_of p ∙ map-append (λ (s : String Global). string_bytes s) c.loop-item.values.items (v ∷ []) in
    one-more (item_values (items_view items)) (texts_of c.loop-item.values.items) (string_bytes v) (label_value (text_in (Some (view x)))) (item_values (items_view (drop (i + 1) items))) h r
    ∙ ap (λ z. onto_read z (item_values (items_view (drop (i + 1) items)))) (sym m)
