use Rattle.std.proofs.Common.{◌≡◌, string_bytes, ap, ◌∙◌}
use Rattle.serde_json.specs.Data.{null, put}
use Rattle.serde_json.specs.View.{view, members_view}
use Rattle.serde_json.proofs.Views.{members_view-insert_entry}
use Rattle.spec_api.specs.Values.{merged, found_or_null}
use Rattle.json_values.proofs.PutAndTaken.{put-put}
use Rattle.json_values.proofs.merging.+merge.Goals as goal

pub merge_member-returns : goal.merge_member-returns
merge_member-returns t c =
    let k = string_bytes c.args.name in
    let ms = members_view c.args.members.now.entries in
    let inner = view c.in_ok-inner.inner in
    let named : c.as_str.result.now ≡ k = c.as_str.ensures.value in
    let existing : view c.in_ok-existing.existing ≡ found_or_null k ms = c.in_ok-existing.ensures.taken ∙ ap (λ n. found_or_null n ms) named in
    let left : members_view c.take.new.members.entries ≡ put k null ms = c.in_ok-existing.ensures.left ∙ ap (λ n. put n null ms) named in
    ap members_view c.in_ok-insert.ensures.entries ∙ members_view-insert_entry c.take.new.members.entries c.args.name c.in_ok-inner.inner ∙ ap (put k inner) left ∙ put-put k inner null ms
    ∙ ap (λ d. put k d ms) (c.in_ok-inner.ensures ∙ ap (λ h. merged h (view c.args.change)) existing)
