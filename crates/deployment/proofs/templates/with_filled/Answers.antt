use Rattle.std.proofs.Common.{◌≡◌, IfOk, sym, ap, ◌∙◌, subst}
use Rattle.serde_json.specs.Data.{Members, object, put}
use Rattle.serde_json.specs.View.{members_view}
use Rattle.serde_json.proofs.Views.{members_len-members_view, view-Object}
use Rattle.spec_api.specs.Values.{members_of}
use Rattle.deployment.proofs.Filled.{filled}
use Rattle.deployment.proofs.templates.with_filled.Goals as goal

pub returns : goal.returns
returns c =
    let holder = members_of c.args.holder.value in
    let entries = c.args.members.entries in
    let name = c.args.name.now in
    let is = ap (λ d. put name d holder) (view-Object c.args.members) ∙ sym (filled name (members_view entries) holder c.len.result (members_len-members_view entries ∙ sym c.len.ensures.len) c.if-len-eq0.false) in
    subst (λ (ms : Members). IfOk c.set_member.result (λ o. o.value ≡ object ms)) is c.set_member.ensures.value
