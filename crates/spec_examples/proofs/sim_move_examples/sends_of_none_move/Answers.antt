use Rattle.std.proofs.Common.{refl}
use Rattle.spec_api.proofs.OnLiterals.{on_literals}
use Rattle.spec_examples.proofs.sim_move_examples.sends_of_none_move.Goals as goal

pub returns : goal.returns
unfolding on_literals
returns c = (refl, refl)
