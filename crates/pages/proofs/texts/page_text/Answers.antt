use Rattle.std.proofs.Common.{◌∙◌, false, map, sym}
use Rattle.serde_json.specs.Data.{object}
use Rattle.spec_api.specs.Lists.{page_metadata}
use Rattle.pages.specs.Seen.{asked_place}
use Rattle.pages.specs.PageTexts.{opening_text, item_texts, closing_text}
use Rattle.pages.proofs.PageTexts.{lent_page_is_pieces, one_after_another}
use Rattle.pages.proofs.texts.page_text.Goals as goal

pub returns : goal.returns
returns c =
    rw (c.in_ok-push_str-2.ensures.bytes, c.in_ok-push_items.ensures, c.in_ok-push_str.ensures.bytes, c.in_ok-text.ensures.bytes, c.as_str.ensures.value, c.in_ok-opening.ensures, c.as_str-2.ensures.value, c.in_ok-closing.ensures)
    (one_after_another (opening_text c.args.kind) (item_texts false (map (λ m. m.object.now.value) c.args.members.now)) (closing_text c.args.kind (object (page_metadata c.args.revision c.args.remaining (asked_place c.args.next)))))
    ∙ sym (lent_page_is_pieces c.args.kind c.args.revision c.args.remaining c.args.members.now (asked_place c.args.next))
