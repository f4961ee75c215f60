use Rattle.std.proofs.Common.{refl}
use Rattle.spec_api.proofs.OnLiterals.{on_literals}
use Rattle.spec_examples.proofs.collector_examples.owners_decide.Goals as goal

pub returns : goal.returns
unfolding on_literals
returns c = record { nothing = refl; live = refl; first = refl; others = refl; deleted = refl; namesakes = refl }
