use Rattle.std.proofs.Common.{refl}
use Rattle.spec_api.proofs.OnLiterals.{on_literals}
use Rattle.spec_examples.proofs.window_examples.windows_reach_back.Goals as goal

pub returns : goal.returns
unfolding on_literals
returns c = record { floors_are_reached = (refl, refl, refl, refl, refl, refl); watches_reach_back = (refl, refl, refl, refl, refl, refl, refl); lists_reach_back = (refl, refl, refl, refl, refl) }
