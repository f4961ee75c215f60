use Rattle.spec_laws.proofs.Falling.{stays_over}
use Rattle.spec_laws.proofs.expectation_laws.stays_over.Goals as goal

pub returns : goal.returns
returns c = stays_over
