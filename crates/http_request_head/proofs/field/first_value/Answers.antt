use Rattle.std.proofs.Common.{rules, ◌∙◌}
use Rattle.http_request_head.proofs.Values.{first_found, none_found}
use Rattle.http_request_head.proofs.field.first_value.Goals as goal

pub returns-then-has_name : goal.returns-then-has_name
returns-then-has_name c = first_found c.args.name.now c.args.fields.now c.loop-field.field-index _ c.has_name.result (search rules) c.has_name.ensures c.if-has_name.true c.loop-field.invariant

pub loop-field-preserved : goal.loop-field-preserved
loop-field-preserved c = none_found c.args.name.now c.args.fields.now c.loop-field.field-index _ c.has_name.result (search rules) c.has_name.ensures c.if-has_name.false ∙ c.loop-field.invariant
