use Rattle.std.proofs.Common.{◌≡◌, false, ap, ◌∙◌}
use Rattle.serde_json.specs.View.{view, members_view}
use Rattle.serde_json.specs.Written.{has_float, members_have_float}
use Rattle.serde_json.proofs.Views.{view-Object}
use Rattle.json_values.proofs.NoFloats.{members_have_float-without, members_of-no_float}
use Rattle.meta.proofs.objects.Object.without_member.Goals as goal

pub from_whole-requires-clause-no_float : goal.from_whole-requires-clause-no_float
from_whole-requires-clause-no_float c =
    let ms = members_view c.into_members-members.result.entries in
    let before : members_have_float ms ≡ false = ap members_have_float c.into_members-members.ensures ∙ members_of-no_float (view c.into_value.result) c.into_value.ensures.no_float in
    ap has_float (view-Object c.remove.new.members) ∙ ap members_have_float c.remove.ensures ∙ members_have_float-without c.args.name.now ms before
