use Rattle.std.proofs.Common.{refl}
use Rattle.spec_api.proofs.OnLiterals.{on_literals}
use Rattle.spec_examples.proofs.verb_examples.names_are_generated.Goals as goal

pub returns : goal.returns
unfolding on_literals
returns c = record { generated_names_are_tried = refl; taken_names_are_passed_over = refl }
