use Rattle.std.proofs.Common.{refl}
use Rattle.spec_api.proofs.OnLiterals.{on_literals}
use Rattle.spec_examples.proofs.check_examples.specs_are_checked.Goals as goal

pub returns : goal.returns
unfolding on_literals
returns c = record { numbers_are_checked = (refl, refl, refl, refl, refl, refl, refl, refl, refl, refl, refl); selectors_are_checked = (refl, refl, refl, refl, refl, refl, refl, refl); templates_are_checked = (refl, refl, refl, refl, refl); strategies_are_checked = (refl, refl, refl, refl, refl, refl, refl, refl, refl, refl); percentages_are_digits = (refl, refl) }
