use Rattle.std.proofs.Common.{refl}
use Rattle.spec_api.proofs.OnLiterals.{on_literals}
use Rattle.spec_examples.proofs.collector_examples.garbage_goes.Goals as goal

pub returns : goal.returns
unfolding on_literals
returns c = record { at_once = refl; by_policy = (refl, refl); dependents = refl; theirs = refl; chains = refl }
