use Rattle.spec_laws.proofs.Reaching.{past}
use Rattle.spec_laws.proofs.reached_laws.pasts_are_reached.Goals as goal

pub returns : goal.returns
returns c = past
