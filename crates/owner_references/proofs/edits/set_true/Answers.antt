use Rattle.std.proofs.Common.{◌≡◌, true, ap, rules}
use Rattle.serde_json.specs.Data.{boolean}
use Rattle.serde_json.specs.View.{view}
use Rattle.serde_json.specs.Written.{has_float}
use Rattle.serde_json.specs.declared.value.Value.{the_lemmas}
use Rattle.serde_json.specs.declared.value.Value.TheVariants as value
use Rattle.json_values.proofs.NoFloats.{after_put-no_float}
use Rattle.owner_references.proofs.edits.set_true.Goals as goal

pub returns-clause-no_float : goal.returns-clause-no_float
returns-clause-no_float c =
    let is : view (value.Bool true) ≡ boolean true = search (rules, the_lemmas) in
    after_put-no_float c.put.result c.args.name.now (view (value.Bool true)) c.args.members.now.entries c.put.new.map.entries c.put.ensures.ok c.put.ensures.err (ap has_float is) c.requires
