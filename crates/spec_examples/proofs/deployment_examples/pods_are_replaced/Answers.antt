use Rattle.std.proofs.Common.{refl}
use Rattle.spec_examples.proofs.DeploymentsWorked.{on_literals}
use Rattle.spec_examples.proofs.deployment_examples.pods_are_replaced.Goals as goal

pub returns : goal.returns
unfolding on_literals
returns c = record { made = refl; shrink = refl; grow = refl; replaced = refl; broken = refl }
