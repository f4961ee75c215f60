use Rattle.std.proofs.Common.{refl}
use Rattle.spec_examples.proofs.DeploymentsWorked.{on_literals}
use Rattle.spec_examples.proofs.deployment_examples.old_sets_are_cleaned_up.Goals as goal

pub returns : goal.returns
unfolding on_literals
returns c = record { spent = refl; others = refl; before = refl }
