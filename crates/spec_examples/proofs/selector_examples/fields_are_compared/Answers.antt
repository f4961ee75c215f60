use Rattle.std.proofs.Common.{refl}
use Rattle.spec_api.proofs.OnLiterals.{on_literals}
use Rattle.spec_examples.proofs.selector_examples.fields_are_compared.Goals as goal

pub returns : goal.returns
unfolding on_literals
returns c = record { fields_are_read = (refl, refl, refl, refl, refl); fields_are_refused = (refl, refl, refl, refl, refl) }
