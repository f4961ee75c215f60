use Rattle.std.proofs.Common.{◌≡◌, ◌≤◌, option_map, string_bytes, subst, sym, ap, ◌∙◌, is_some, true, Some}
use Rattle.serde_json.specs.Data.{depth}
use Rattle.serde_json.specs.Find.{as_object}
use Rattle.serde_json.specs.Read.{read, max_depth}
use Rattle.serde_json.specs.Written.{compact_text, IsInOrder}
use Rattle.meta.specs.Stored.{IsTree, Keeps, data_kept, tree_view}
use Rattle.meta.specs.WholeTexts.{Fits, given}
use Rattle.meta.proofs.StoredTexts.{data_kept-is}
use Rattle.meta.proofs.stored_texts.StoredTexts.new.Goals as goal

pub invariant_of-result : goal.invariant_of-result
invariant_of-result c =
    let k = c.kind-kind.result in
    let d = c.args.object.now.value in
    let item = string_bytes c.in_ok-item.item in
    let whole = c.new-whole.result in
    let tree = option_map tree_view c.in_ok-tree.tree in
    let is_item : c.as_str.result.now ≡ item = c.as_str.ensures.value in
    let text : string_bytes c.in_ok-text.text ≡ compact_text d = c.in_ok-text.ensures.text in
    let gives : given k whole item ≡ compact_text d =
    ap (given k whole) (sym is_item) ∙ c.new-whole.ensures.given ∙ text in
    let back : depth d ≤ max_depth → read (compact_text d) ≡ Some d = subst (λ t. depth d ≤ max_depth → read t ≡ Some d) text c.in_ok-text.ensures.reads_back in
    let is_tree : IsTree tree d = subst (λ e. IsTree tree e) c.value.ensures.value c.in_ok-tree.ensures in
    let same : data_kept tree (given k whole item) ≡ d = data_kept-is tree (given k whole item) d is_tree (subst (λ t. depth d ≤ max_depth → read t ≡ Some d) (sym gives) back) in
    subst (λ e. Keeps e k item whole c.in_ok-labels.labels.items) (sym same)
    (record {
      no_float = c.in_ok-text.ensures.no_float;
      is_object = subst (λ e. is_some (as_object e) ≡ true) c.value.ensures.value c.value.ensures.object;
      is_item = c.in_ok-item.ensures;
      fits = subst (Fits whole) is_item c.new-whole.ensures.fits;
      gives_text = gives;
      in_order = subst (λ t. IsInOrder t d) text c.in_ok-text.ensures.order;
      reads_back = back;
      are_labels = c.in_ok-labels.ensures;
    })
