use Rattle.std.proofs.Common.{sym, subst}
use Rattle.serde_json.specs.View.{view}
use Rattle.json_values.proofs.NoFloats.{no_float, get_no_float, found-no_float}
use Rattle.object_fields.proofs.parts.in_spec.Goals as goal

pub returns-clause-no_float : goal.returns-clause-no_float
returns-clause-no_float c =
    found-no_float c.get.result (subst no_float (sym c.get.ensures) (get_no_float c.args.name.now (view c.in_ok-member.field-0.now) c.in_ok-member.ensures.no_float))
