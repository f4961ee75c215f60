use Rattle.spec_laws.proofs.Falling.{none_below_zero}
use Rattle.spec_laws.proofs.expectation_laws.none_below_zero.Goals as goal

pub returns : goal.returns
returns c = none_below_zero
