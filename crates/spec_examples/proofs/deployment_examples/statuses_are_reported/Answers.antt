use Rattle.std.proofs.Common.{refl}
use Rattle.spec_examples.proofs.DeploymentsWorked.{on_literals}
use Rattle.spec_examples.proofs.deployment_examples.statuses_are_reported.Goals as goal

pub returns : goal.returns
unfolding on_literals
returns c = record { paused = refl; deleted = refl; apart = refl }
