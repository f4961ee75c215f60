use Rattle.spec_laws.proofs.RolloutNumbers.{only_shrink}
use Rattle.spec_laws.proofs.deployment_laws.old_sets_only_shrink.Goals as goal

pub returns : goal.returns
returns c = only_shrink
