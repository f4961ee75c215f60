use Rattle.std.proofs.Common.{refl}
use Rattle.spec_api.proofs.OnLiterals.{on_literals}
use Rattle.spec_examples.proofs.request_examples.texts_are_exact.Goals as goal

pub returns : goal.returns
unfolding on_literals
returns c = record { kinds_are_named = (refl, refl, refl, refl, refl, refl, refl); names_are_subdomains = (refl, refl); moments_are_days = (refl, refl); uids_are_written = (refl, refl, refl); limits_are_exact = (refl, refl, refl, refl, refl, refl, refl, refl) }
