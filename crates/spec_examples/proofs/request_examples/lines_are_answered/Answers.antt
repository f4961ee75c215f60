use Rattle.std.proofs.Common.{refl}
use Rattle.spec_api.proofs.OnLiterals.{on_literals}
use Rattle.spec_examples.proofs.request_examples.lines_are_answered.Goals as goal

pub returns : goal.returns
unfolding on_literals
returns c = record { paths_come_first = refl; lines_are_read = refl; refusals_are_said = (refl, refl, refl, refl, refl, refl, refl, refl, refl, refl, refl, refl, refl, refl); successes_are_said = (refl, refl) }
