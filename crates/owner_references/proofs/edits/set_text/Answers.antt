use Rattle.std.proofs.Common.{ap}
use Rattle.serde_json.specs.View.{view}
use Rattle.serde_json.specs.Written.{has_float}
use Rattle.json_values.proofs.NoFloats.{after_put-no_float}
use Rattle.owner_references.proofs.edits.set_text.Goals as goal

pub returns-clause-no_float : goal.returns-clause-no_float
returns-clause-no_float c =
    after_put-no_float c.put.result c.args.name.now (view c.in_ok-value.value) c.args.members.now.entries c.put.new.map.entries c.put.ensures.ok c.put.ensures.err (ap has_float c.in_ok-value.ensures) c.requires
