use Rattle.std.proofs.Common.{refl}
use Rattle.spec_api.proofs.OnLiterals.{on_literals}
use Rattle.spec_examples.proofs.replica_set_examples.ranks_go_in_order.Goals as goal

pub returns : goal.returns
unfolding on_literals
returns c = record { nodes = (refl, refl); phases = refl; readiness = refl; costs = refl; cheap = refl }
