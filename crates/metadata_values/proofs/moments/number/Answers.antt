use Rattle.std.proofs.Common.{sym, ◌∙◌, arith}
use Rattle.metadata_values.proofs.Forms.{digit-value, value-drop, power-more, power-small}
use Rattle.metadata_values.proofs.moments.number.Goals as goal

pub overflow_mul-number : goal.overflow_mul-number
overflow_mul-number c = omega (arith, power-small c.loop-digit.digit-index (omega arith))

pub overflow_sub-number : goal.overflow_sub-number
overflow_sub-number c = (digit-value c.args.digits.now c.loop-digit.digit-index c.requires.digits c.loop-digit-test.true).0

pub loop-digit-preserved : goal.loop-digit-preserved
loop-digit-preserved c =
    let digit = digit-value c.args.digits.now c.loop-digit.digit-index c.requires.digits c.loop-digit-test.true in
    record {
      spelled = sym (value-drop c.loop-digit.number c.loop-digit.digit-index c.args.digits.now c.loop-digit-test.true digit) ∙ c.loop-digit.invariant.spelled;
      small = omega (arith, digit.1, power-more c.loop-digit.digit-index);
    }
