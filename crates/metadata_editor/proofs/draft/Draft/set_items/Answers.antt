use Rattle.std.proofs.Common.{ap, ◌∙◌}
use Rattle.serde_json.specs.View.{view}
use Rattle.serde_json.specs.Written.{has_float}
use Rattle.serde_json.specs.declared.value.Value.TheVariants.{Array}
use Rattle.serde_json.proofs.Views.{view-Array}
use Rattle.json_values.proofs.NoFloats.{after_put-no_float}
use Rattle.metadata_editor.proofs.draft.Draft.set_items.Goals as goal

pub invariant_of-self : goal.invariant_of-self
invariant_of-self c = (
  c.self.invariant.0,
  after_put-no_float c.put.result c.args.name.now (view (Array c.args.items)) c.self.inside.metadata.entries c.put.new.map.entries c.put.ensures.ok c.put.ensures.err
      (ap has_float (view-Array c.args.items) ∙ c.requires.no_float) c.self.invariant.1,
)
