use Rattle.std.proofs.Common.{length, ◌==◌, sym, ap, ◌∙◌}
use Rattle.serde_json.specs.View.{view}
use Rattle.serde_json.proofs.Views.{items_len-items_view, members_len-members_view, view-Array, view-Object}
use Rattle.spec_api.specs.Reading.{is_empty}
use Rattle.meta.proofs.reading.is_empty.Goals as goal

pub returns-in-Array : goal.returns-in-Array
returns-in-Array c =
    ap (λ n. n == 0) (ap length c.as_slice.ensures.value ∙ sym (items_len-items_view c.in-Array.items.items)) ∙ sym (ap (λ v. is_empty (view v)) c.in-Array.is ∙ ap is_empty (view-Array c.in-Array.items))

pub returns-in-Object : goal.returns-in-Object
returns-in-Object c =
    ap (λ n. n == 0) (c.len-in-Object.ensures.len ∙ sym (members_len-members_view c.in-Object.members.entries)) ∙ sym (ap (λ v. is_empty (view v)) c.in-Object.is ∙ ap is_empty (view-Object c.in-Object.members))
