use Rattle.std.proofs.Common.{ap, ◌∙◌}
use Rattle.serde_json.specs.View.{members_view}
use Rattle.serde_json.specs.Written.{members_have_float}
use Rattle.json_values.proofs.NoFloats.{members_have_float-without}
use Rattle.metadata_editor.proofs.draft.Draft.remove.Goals as goal

pub invariant_of-self : goal.invariant_of-self
invariant_of-self c =
    (c.self.invariant.0, ap members_have_float c.remove.ensures ∙ members_have_float-without c.args.name.now (members_view c.self.inside.metadata.entries) c.self.invariant.1)
