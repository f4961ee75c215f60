use Rattle.spec_laws.proofs.Falling.{only_falls}
use Rattle.spec_laws.proofs.expectation_laws.only_falls.Goals as goal

pub returns : goal.returns
returns c = only_falls
