use Rattle.std.proofs.Common.{refl}
use Rattle.spec_api.proofs.OnLiterals.{on_literals}
use Rattle.spec_examples.proofs.request_examples.bodies_are_checked.Goals as goal

pub returns : goal.returns
unfolding on_literals
returns c = record { names_are_checked = refl; bodies_are_read = refl; members_are_typed = refl; members_are_kept = refl }
