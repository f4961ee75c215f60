use Rattle.std.proofs.Common.{◌≡◌, ◌++◌, ◌∷◌, false, OnOk, string_bytes, ap, ◌∙◌, rules}
use Rattle.std.proofs.lemmas.Result.{on_ok_weaker}
use Rattle.serde_json.specs.View.{members_view}
use Rattle.meta.specs.Items.{item_text}
use Rattle.meta.proofs.ItemTexts.{item_text-without}
use Rattle.meta.proofs.items.push_item_text.Goals as goal

pub returns : goal.returns
returns c =
    let es = c.args.members.now.entries in
    let all : OnOk c.push_str-2.result (string_bytes c.push_str-2.new.self ≡ string_bytes c.args.text.now ++ 123 ∷ item_text false (members_view es)) = search rules in
    on_ok_weaker c.push_str-2.result (λ e. e ∙ ap (λ t. string_bytes c.args.text.now ++ t) (item_text-without es c.iter-key-items.ensures.ordered)) all
