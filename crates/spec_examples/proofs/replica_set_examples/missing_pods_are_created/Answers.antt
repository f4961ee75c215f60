use Rattle.std.proofs.Common.{refl}
use Rattle.spec_api.proofs.OnLiterals.{on_literals}
use Rattle.spec_examples.proofs.replica_set_examples.missing_pods_are_created.Goals as goal

pub returns : goal.returns
unfolding on_literals
returns c = record { missing = refl; inactive = (refl, refl, refl); elsewhere = (refl, refl); others = (refl, refl) }
