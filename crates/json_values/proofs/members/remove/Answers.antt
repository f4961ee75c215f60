use Rattle.std.proofs.Common.{ap, ◌∙◌}
use Rattle.serde_json.specs.View.{members_view}
use Rattle.json_values.proofs.PutAndTaken.{members_view-remove_entry}
use Rattle.json_values.proofs.members.remove.Goals as goal

pub returns : goal.returns
returns c = ap members_view c.remove.ensures.entries ∙ members_view-remove_entry c.args.name.now c.args.members.now.entries
