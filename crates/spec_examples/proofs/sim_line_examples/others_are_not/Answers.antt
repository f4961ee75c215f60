use Rattle.std.proofs.Common.{refl}
use Rattle.spec_api.proofs.OnLiterals.{on_literals}
use Rattle.spec_examples.proofs.sim_line_examples.others_are_not.Goals as goal

pub returns : goal.returns
unfolding on_literals
returns c = (refl, refl, refl, refl, refl, refl, refl, refl, refl, refl, refl, refl)
