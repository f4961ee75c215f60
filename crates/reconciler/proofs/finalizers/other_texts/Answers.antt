use Rattle.std.proofs.Common.{◌∙◌, ◌++◌, ap, sym, map, not, append-nil}
use Rattle.std.proofs.lemmas.List.{drop_all}
use Rattle.std.specs.List.{filter}
use Rattle.std.specs.Str.{bytes_eq}
use Rattle.serde_json.specs.View.{view}
use Rattle.spec_api.specs.Checks.{text_is}
use Rattle.owner_references.proofs.KeptItems.{kept_are}
use Rattle.reconciler.proofs.finalizers.other_texts.Goals as goal

pub returns : goal.returns
returns c =
    let kept = c.loop-item.others.items in
    kept_are (λ d. not (text_is (bytes_eq c.args.text.now) d)) c.args.items.now kept
    (sym (append-nil (map view kept))
    ∙ ap (λ us. map view kept ++ filter (λ d. not (text_is (bytes_eq c.args.text.now) d)) (map view us)) (sym (drop_all c.loop-item.item-index c.args.items.now c.loop-item-test.false))
    ∙ c.loop-item.invariant)
