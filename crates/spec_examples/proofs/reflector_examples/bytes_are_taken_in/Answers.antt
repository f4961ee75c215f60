use Rattle.std.proofs.Common.{refl}
use Rattle.spec_api.proofs.OnLiterals.{on_literals}
use Rattle.spec_examples.proofs.reflector_examples.bytes_are_taken_in.Goals as goal

pub returns : goal.returns
unfolding on_literals
returns c = record { lists_are_taken_in = (refl, refl, refl); changes_are_taken_in = (refl, refl); parts_are_held = (refl, refl); ends_are_seen = (refl, refl, refl, refl) }
