use Rattle.std.proofs.Common.{refl}
use Rattle.spec_api.proofs.OnLiterals.{on_literals}
use Rattle.spec_examples.proofs.replica_set_examples.surplus_pods_are_deleted.Goals as goal

pub returns : goal.returns
unfolding on_literals
returns c = record { unplaced = refl; unready = refl; names = refl; all = refl }
