use Rattle.spec_laws.proofs.RolloutNumbers.{growth_greatest}
use Rattle.spec_laws.proofs.deployment_laws.growth_is_greatest.Goals as goal

pub returns : goal.returns
returns c = growth_greatest
