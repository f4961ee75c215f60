use Rattle.std.proofs.Common.{refl}
use Rattle.spec_api.proofs.OnLiterals.{on_literals}
use Rattle.spec_examples.proofs.shift_examples.lists_shift.Goals as goal

pub returns : goal.returns
unfolding on_literals
returns c = record { differing = refl; replacing = (refl, refl) }
