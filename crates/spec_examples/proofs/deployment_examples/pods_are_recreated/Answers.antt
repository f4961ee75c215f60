use Rattle.std.proofs.Common.{refl}
use Rattle.spec_examples.proofs.DeploymentsWorked.{on_literals}
use Rattle.spec_examples.proofs.deployment_examples.pods_are_recreated.Goals as goal

pub returns : goal.returns
unfolding on_literals
returns c = record { stopped = refl; waits = refl; made = refl }
