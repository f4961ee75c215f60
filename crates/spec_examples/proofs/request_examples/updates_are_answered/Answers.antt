use Rattle.std.proofs.Common.{refl}
use Rattle.spec_api.proofs.OnLiterals.{on_literals}
use Rattle.spec_examples.proofs.request_examples.updates_are_answered.Goals as goal

pub returns : goal.returns
unfolding on_literals
returns c = record { second_update_conflicts = refl; update_keeps_identity = refl; absent_is_not_found = refl; patches_merge = (refl, refl, refl, refl, refl, refl, refl, refl, refl, refl, refl, refl, refl, refl, refl) }
