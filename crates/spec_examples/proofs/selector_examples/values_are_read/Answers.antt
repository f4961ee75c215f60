use Rattle.std.proofs.Common.{refl}
use Rattle.spec_api.proofs.OnLiterals.{on_literals}
use Rattle.spec_examples.proofs.selector_examples.values_are_read.Goals as goal

pub returns : goal.returns
unfolding on_literals
returns c = record { values_are_selectors = (refl, refl, refl, refl); values_are_refused = (refl, refl, refl, refl, refl, refl, refl, refl, refl, refl, refl) }
