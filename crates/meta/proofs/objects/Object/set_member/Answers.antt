use Rattle.std.proofs.Common.{◌≡◌, false, ap, ◌∙◌}
use Rattle.serde_json.specs.View.{view, members_view}
use Rattle.serde_json.specs.Written.{has_float, members_have_float}
use Rattle.serde_json.proofs.Views.{view-Object}
use Rattle.spec_api.proofs.NoFloatsRead.{members_have_float-put}
use Rattle.json_values.proofs.NoFloats.{members_of-no_float}
use Rattle.meta.proofs.objects.Object.set_member.Goals as goal

pub from_whole-requires-clause-no_float : goal.from_whole-requires-clause-no_float
from_whole-requires-clause-no_float c =
    let ms = members_view c.into_members-members.result.entries in
    let before : members_have_float ms ≡ false = ap members_have_float c.into_members-members.ensures ∙ members_of-no_float (view c.into_value.result) c.into_value.ensures.no_float in
    ap has_float (view-Object c.put.new.map) ∙ ap members_have_float c.in_ok-put.ensures.ok ∙ members_have_float-put c.args.name.now (view c.args.value) ms c.requires.no_float before
