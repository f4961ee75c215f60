use Rattle.std.proofs.Common.{refl}
use Rattle.spec_examples.proofs.DeploymentsWorked.{on_literals}
use Rattle.spec_examples.proofs.deployment_examples.rolling_updates_are_bounded.Goals as goal

pub returns : goal.returns
unfolding on_literals
returns c = record { paces = (refl, refl, refl, refl, refl); ten = (refl, refl, refl, refl, refl, refl, refl, refl); bounded = (refl, refl, refl, refl) }
