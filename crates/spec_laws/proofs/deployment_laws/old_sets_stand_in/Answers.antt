use Rattle.spec_laws.proofs.RolloutNumbers.{stand_in}
use Rattle.spec_laws.proofs.deployment_laws.old_sets_stand_in.Goals as goal

pub returns : goal.returns
returns c = stand_in
