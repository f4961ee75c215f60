use Rattle.std.proofs.Common.{refl}
use Rattle.spec_api.proofs.OnLiterals.{on_literals}
use Rattle.spec_examples.proofs.sim_move_examples.first_lists_are_marked.Goals as goal

pub returns : goal.returns
unfolding on_literals
returns c = (refl, refl, refl)
