use Rattle.spec_laws.proofs.RolloutNumbers.{stays_below}
use Rattle.spec_laws.proofs.deployment_laws.resizes_stay_below.Goals as goal

pub returns : goal.returns
returns c = stays_below
