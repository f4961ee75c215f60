use Rattle.std.proofs.Common.{refl}
use Rattle.spec_examples.proofs.DeploymentsWorked.{on_literals}
use Rattle.spec_examples.proofs.deployment_examples.collisions_are_counted.Goals as goal

pub returns : goal.returns
unfolding on_literals
returns c = record { counted = refl; named = refl; end = refl }
