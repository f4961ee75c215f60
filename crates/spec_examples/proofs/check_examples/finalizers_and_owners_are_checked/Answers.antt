use Rattle.std.proofs.Common.{refl}
use Rattle.spec_api.proofs.OnLiterals.{on_literals}
use Rattle.spec_examples.proofs.check_examples.finalizers_and_owners_are_checked.Goals as goal

pub returns : goal.returns
unfolding on_literals
returns c = record { finalizers_are_checked = (refl, refl, refl); owners_are_checked = (refl, refl, refl, refl, refl, refl); uids_of_the_future_are_known = (refl, refl, refl, refl, refl, refl, refl, refl) }
