use Rattle.spec_laws.proofs.RolloutNumbers.{cuts_greatest}
use Rattle.spec_laws.proofs.deployment_laws.cuts_are_greatest.Goals as goal

pub returns : goal.returns
returns c = cuts_greatest
