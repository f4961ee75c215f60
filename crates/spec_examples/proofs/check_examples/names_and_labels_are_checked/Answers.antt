use Rattle.std.proofs.Common.{refl}
use Rattle.spec_api.proofs.OnLiterals.{on_literals}
use Rattle.spec_examples.proofs.check_examples.names_and_labels_are_checked.Goals as goal

pub returns : goal.returns
unfolding on_literals
returns c = record { names_are_needed = (refl, refl, refl, refl, refl, refl); names_are_made = (refl, refl, refl, refl, refl); labels_are_checked = (refl, refl, refl) }
