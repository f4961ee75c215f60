use Rattle.std.proofs.Common.{rules, ap, length, arith}
use Rattle.http_request_head.proofs.Values.{one_found, none_found}
use Rattle.http_request_head.proofs.field.count.Goals.{then-has_name, else-has_name}
use Rattle.http_request_head.proofs.field.count.Goals as goal

pub loop-field-preserved : goal.loop-field-preserved
loop-field-preserved c =
    elim c.if-has_name.branch [
      | then-has_name w ↦
          let more = one_found c.args.name.now c.args.fields.now c.loop-field.field-index _ c.has_name.result (search rules) c.has_name.ensures w.if-has_name.true in
          (omega (arith, more, w.count-is), omega (arith, w.count-is))
      | else-has_name w ↦
          let same = ap length (none_found c.args.name.now c.args.fields.now c.loop-field.field-index _ c.has_name.result (search rules) c.has_name.ensures w.if-has_name.false) in
          (omega (arith, same, w.count-is), omega (arith, w.count-is))
    ]
