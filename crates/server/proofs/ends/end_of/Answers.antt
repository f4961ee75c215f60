use Rattle.std.proofs.Common.{◌≡◌, length, map, false, rules, ap, ◌∙◌}
use Rattle.pages.specs.Seen.{asked_place}
use Rattle.pages.specs.PageTexts.{item_texts}
use Rattle.server.specs.declared.ends.PageEnd.{PageEnd}
use Rattle.server.proofs.PageItems.{end_is}
use Rattle.server.proofs.ends.end_of.Goals as goal

pub returns : goal.returns
returns c =
    let page = c.args.page.now in
    let chunk = c.in_ok-chunk.chunk in
    let members = c.as_slice-members.result.now in
    let end : PageEnd = record { count = length members; items_len = c.in_ok-items_len.field-0; closing = c.in_ok-closing_text.field-0 } in
    let many : length members ≡ length chunk.members.items = ap length c.as_slice-members.ensures.value in
    let long : c.in_ok-items_len.field-0 ≡ length (item_texts false (map (λ m. m.object.now.value) chunk.members.items)) =
    c.in_ok-items_len.ensures ∙ ap (λ ms. length (item_texts false (map (λ m. m.object.now.value) ms))) c.as_slice-members.ensures.value in
    end_is page chunk end c.in_ok-chunk.ensures c.told_count-told.result (asked_place c.as_ref.result) many long (search rules) (search rules) (search rules)
