use Rattle.std.proofs.Common.{refl}
use Rattle.spec_examples.proofs.DeploymentsWorked.{on_literals}
use Rattle.spec_examples.proofs.deployment_examples.sets_are_new_again.Goals as goal

pub returns : goal.returns
unfolding on_literals
returns c = record { raised = refl; alone = refl; empty = refl }
