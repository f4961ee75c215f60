use Rattle.std.proofs.Common.{◌≡◌, false, ap, ◌∙◌}
use Rattle.serde_json.specs.View.{view, members_view}
use Rattle.serde_json.specs.Written.{has_float, members_have_float}
use Rattle.json_values.proofs.NoFloats.{after_put-no_float, members_have_float-without}
use Rattle.metadata_editor.proofs.draft.Draft.keep.Goals as goal

pub invariant_of-self : goal.invariant_of-self
invariant_of-self c =
    let copied : has_float (view c.in_ok-value-in-Some.value) ≡ false = ap has_float c.in_ok-value-in-Some.ensures.cases ∙ c.in-Some.ensures.no_float in (
      c.self.invariant.0,
      after_put-no_float c.put.result c.args.name.now (view c.in_ok-value-in-Some.value) c.self.inside.metadata.entries c.put.new.map.entries c.put.ensures.ok c.put.ensures.err copied c.self.invariant.1,
    )

pub invariant_of-self-in-None : goal.invariant_of-self-in-None
invariant_of-self-in-None c =
    (c.self.invariant.0, ap members_have_float c.remove.ensures ∙ members_have_float-without c.args.name.now (members_view c.self.inside.metadata.entries) c.self.invariant.1)
