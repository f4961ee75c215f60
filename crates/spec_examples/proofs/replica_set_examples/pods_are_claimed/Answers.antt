use Rattle.std.proofs.Common.{refl}
use Rattle.spec_api.proofs.OnLiterals.{on_literals}
use Rattle.spec_examples.proofs.replica_set_examples.pods_are_claimed.Goals as goal

pub returns : goal.returns
unfolding on_literals
returns c = record { claimed = (refl, refl); references = (refl, refl); wait = (refl, refl, refl); asked = (refl, refl, refl, refl) }
