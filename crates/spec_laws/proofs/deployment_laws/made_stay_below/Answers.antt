use Rattle.spec_laws.proofs.RolloutNumbers.{made_below}
use Rattle.spec_laws.proofs.deployment_laws.made_stay_below.Goals as goal

pub returns : goal.returns
returns c = made_below
