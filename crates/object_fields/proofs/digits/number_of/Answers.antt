use Rattle.object_fields.proofs.FewDigits.{is_read}
use Rattle.object_fields.proofs.digits.number_of.Goals as goal

pub returns-in-Err : goal.returns-in-Err
returns-in-Err c = absurd (c.in-Err.ensures.value.0 (is_read c.args.digits.now c.requires.digits c.requires.there c.requires.few))
