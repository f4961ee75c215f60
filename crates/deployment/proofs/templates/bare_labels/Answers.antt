use Rattle.std.proofs.Common.{ap, ◌∙◌}
use Rattle.serde_json.specs.View.{view, members_view}
use Rattle.serde_json.specs.Written.{members_have_float}
use Rattle.json_values.proofs.NoFloats.{members_have_float-without, members_of-no_float}
use Rattle.spec_reconcile.specs.Templates.{hash_label}
use Rattle.deployment.proofs.templates.bare_labels.Goals as goal

pub returns-clause-no_float : goal.returns-clause-no_float
returns-clause-no_float c =
    ap members_have_float c.remove.ensures
    ∙ members_have_float-without hash_label (members_view c.into_members-members.result.entries) (ap members_have_float c.into_members-members.ensures ∙ members_of-no_float (view c.into_value.result) c.into_value.ensures.no_float)
