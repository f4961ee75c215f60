use Rattle.std.proofs.Common.{codes, map, option_map, string_bytes, ap, ◌∙◌}
use Rattle.spec_api.specs.Metadata.{label, metadata}
use Rattle.meta.specs.Labels.{label_of, label_text}
use Rattle.meta.specs.Stored.{data_kept, tree_view}
use Rattle.meta.specs.WholeTexts.{given}
use Rattle.meta.proofs.LabelTexts.{label_text-label}
use Rattle.meta.proofs.stored_texts.StoredTexts.label.Goals as goal

pub returns : goal.returns
returns c =
    let name = c.args.name.now in
    let k = c.self.inside in
    let d = data_kept (option_map tree_view k.tree) (given k.kind k.whole (string_bytes k.item)) in
    c.label_text.ensures ∙ ap (λ ls. label_text name (map label_of ls)) c.deref.ensures.value
    ∙ ap (λ ls. label_text name ls) c.self.invariant.are_labels
    ∙ label_text-label name (metadata (codes "labels") d)
    ∙ ap (λ o. label name o.value) c.self.view_is
